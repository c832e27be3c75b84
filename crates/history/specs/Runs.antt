-- Runs: what a whole list of calls comes to, and what each of them is answered.
use Rattle.std.specs.Prelude.{ℕ, suc, List, [], ◌∷◌}
use Rattle.history.specs.Histories.{History, empty}
use Rattle.history.specs.Calls.{Call, Answer, answer, step}

-- the history after some calls, from h on, the first of them at place i
abbrev pub run_from : ℕ → ℕ → History → List Call → History
run_from n i h [] = h
run_from n i h (c ∷ cs) = run_from n (suc i) (step n i c h) cs

-- what they are answered
abbrev pub answers_from : ℕ → ℕ → History → List Call → List Answer
answers_from n i h [] = []
answers_from n i h (c ∷ cs) = answer n c h ∷ answers_from n (suc i) (step n i c h) cs

-- the history of a list of calls over n blocks
abbrev pub run : ℕ → List Call → History
run n cs = run_from n 0 empty cs

-- every answer of a list of calls over n blocks
abbrev pub answers : ℕ → List Call → List Answer
answers n cs = answers_from n 0 empty cs
