use Rattle.chain_store.proofs.Stores.{free_counted}
use Rattle.chain_store.proofs.store_calls.ChainStoreBlockStore.left.Goals as goal

pub returns-clause-value : goal.returns-clause-value
returns-clause-value c = free_counted c.args.self.now
