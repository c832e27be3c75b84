-- What the calls and answers of the code say, in the words of histories.
--
--   outcome     what a call that returned a result is answered
--   done_with   what a call that only does something is answered
--   replied     the answer of a call that was not refused
--   told        an answer
--   act         a call
use Rattle.std.specs.Prelude.{Ok, Err, Result}
use Rattle.rules.specs.Sheets as sheets
use Rattle.history.specs.Calls as history
use Rattle.ink.specs.Meanings.{dot_of}
use Rattle.calls.specs.Refusals.{numbers_of}
use Rattle.calls.specs.declared.refusals.Refusal.{Refusal}
use Rattle.calls.specs.declared.answers.Reply.{Reply}
use Rattle.calls.specs.declared.answers.Reply.TheVariants.{Done, Size, Number, Maybe, Dot, Truth, Corners}
use Rattle.calls.specs.declared.asked.Call.{Call}
use Rattle.calls.specs.declared.asked.Call.TheVariants as call

-- `said` is the answer of a value that was returned
abbrev pub outcome : {A : Type 0} → (A → history.Answer) → Result A Refusal → history.Answer
outcome said (Ok x) = said x
outcome said (Err e) = history.refused (numbers_of e)

abbrev pub done_with : Result Unit Refusal → history.Answer
done_with r = outcome (λ _. history.done) r

abbrev pub replied : Reply → history.Answer
replied Done = history.done
replied (Size s) = history.size s.width s.height
replied (Number n) = history.number n
replied (Maybe n) = history.number_or_none n
replied (Dot d) = history.dot (dot_of d)
replied (Truth b) = history.truth b
replied (Corners b) = history.rectangle b

abbrev pub told : Result Reply Refusal → history.Answer
told a = outcome replied a

abbrev pub act : Call → history.Call
act (call.Start s) = history.start s.width s.height
act (call.Layer s l o) = history.edit s (sheets.layer l o)
act (call.Frisket s p a b) = history.edit s (sheets.frisket p a b)
act call.Undo = history.undo
act call.Redo = history.redo
act (call.Go s) = history.go s
act (call.Forget s) = history.forget s
act call.Size = history.ask_size
act call.Head = history.ask_head
act call.Left = history.ask_left
act (call.Parent s) = history.ask_parent s
act (call.Dot s l p) = history.ask_dot s l p
act (call.Flat s p) = history.ask_flat s p
act (call.Protected s p) = history.ask_protected s p
act (call.Opacity s l) = history.ask_record s l
act (call.Inked s) = history.ask_inked s
act (call.Bounds s l) = history.ask_box s l
