use Rattle.std.proofs.Common.{Some, None, option_map, length, set, sym, ap, ◌∙◌, length-append, length-take, length-drop, arith}
use Rattle.std.proofs.lemmas.List.{get_or_default, length-map}
use Rattle.std.proofs.lemmas.List.Edits.{map_over_more}
use Rattle.table.specs.Tables.{moved_up}
use Rattle.table.proofs.tables.Table.move_children_up.Goals as goal
use Rattle.table.proofs.tables.Table.move_children_up.Goals.{in-Some, in_default}

pub loop-place-preserved : goal.loop-place-preserved
loop-place-preserved c =
    let f = option_map (moved_up c.args.number c.args.parent) in
    let old = c.args.self.now.snapshots in
    let now = c.loop-place.place-items in
    let i = c.loop-place.place-index in
    let long = simp (length-append, length-map, length-take, length-drop) at (ap length c.loop-place.invariant) in
    elim c.match-place.branch [
      | in-Some w ↦
          w.place-items-is ∙ ap (λ v. set now i (Some v)) w.move_up.ensures.after
          ∙ map_over_more f old now i _ (omega arith) c.loop-place.invariant (sym w.in-Some.is ∙ get_or_default now i None _ (omega (arith, long)))
      | in_default w ↦ (rw w.in_default.is at w.place-items-is) ∙ map_over_more f old now i None (omega arith) c.loop-place.invariant (sym w.in_default.is)
    ]
