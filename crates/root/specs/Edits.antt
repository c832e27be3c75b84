-- What an edit of one tree of a snapshot leaves: `new` is the plan, t the tree, p the word of the snapshot's root block.
--
--   Made     the tree was rebuilt, and a root block made for it and the other trees; r is its word
--   Same     the plan changes no cell, and nothing is altered
--   Short    there are too few blocks, and nothing is altered
use Rattle.std.specs.Prelude.{◌≡◌, ℕ, suc, ◌-◌, ◌<◌, true, false}
use Rattle.block.specs.Blocks.{Blocks, Whole, free_count}
use Rattle.block.specs.declared.refusals.Refusal.{Refusal}
use Rattle.block.specs.declared.refusals.Refusal.TheVariants.{NoneFree}
use Rattle.forest.specs.Trees.{child}
use Rattle.forest.specs.Plans.{needed}
use Rattle.forest.specs.Fills.{Filled}
use Rattle.forest.specs.Promises.{Rebuilt}
use Rattle.count.specs.Steps.{put}
use Rattle.rules.specs.Cells.{depth}

pub record Made (new : ℕ → ℕ → ℕ) (m o : Blocks) (t p r : ℕ) : Type 0 where
  pub middle : Blocks
  pub top : ℕ
  pub some : 0 < r
  pub rebuilt : Rebuilt new m middle (depth t) (child m p t) top true
  pub filled : Filled middle o 1 (r - 1) (put t top (child m p)) (put t true (λ _. false))
  pub whole : Whole o

pub record Same (new : ℕ → ℕ → ℕ) (m o : Blocks) (t p : ℕ) : Type 0 where
  pub same : o ≡ m
  pub none : needed new m (depth t) (child m p t) 0 ≡ 0

pub record Short (new : ℕ → ℕ → ℕ) (m o : Blocks) (t p : ℕ) (e : Refusal) : Type 0 where
  pub why : e ≡ NoneFree
  pub same : o ≡ m
  pub few : free_count m < suc (needed new m (depth t) (child m p t) 0)
