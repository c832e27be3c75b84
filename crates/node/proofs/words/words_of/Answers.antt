use Rattle.std.proofs.Common.{rules}
use Rattle.forest.specs.Trees.{child, words}
use Rattle.node.proofs.Arrays.{made_by}
use Rattle.node.proofs.words.words_of.Goals as goal

pub returns : goal.returns
unfolding words
returns g c = made_by _ _ (child (g.S.BlockStore.blocks c.args.store.now) c.args.word) c.from_fn.result 0 16 (λ i y q l k. (search rules, search rules)) c.from_fn.ensures.items
