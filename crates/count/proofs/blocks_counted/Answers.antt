use Rattle.count.proofs.Laws.{need_counted, blocks_counted, count_theorem, room_told}
use Rattle.count.proofs.blocks_counted.Goals as goal

pub returns : goal.returns
returns c = record { need = need_counted; shared = blocks_counted; count = count_theorem; room = room_told }
