-- The refusals of a call come in document 01's order, and nothing moves on one. Assumes nothing.
use Prim.Native.Nat.{ℕ}
use mathlib.Core.Path.{◌≡◌, refl, ◌∙◌}
use mathlib.Core.Bool.{Bool}
use mathlib.Core.List.{List}
use lib.ListN.{length}
use lib.Dec.{eqb}
use Rattle.basics.specs.Order.{unless}
use Rattle.basics.proofs.Bools.{by-test}
use Rattle.cycle.specs.declared.Bus.{Bus}
use Rattle.cycle.specs.declared.Event.{Event}
use Rattle.cycle.specs.declared.Node.{Node}
use Rattle.cycle.specs.State.{silent}
use Rattle.cycle.specs.Bounds.{in_bounds, lawful_words}
use Rattle.cycle.specs.Cycle.{step_of}
use Rattle.cycle.specs.Nodes.{sets_of, step_table_of}

module _ (b : Bus) (reset : Bool) (e : Event) where
  -- over sets: 5 before 3
  pub step_order : (wants holds : ℕ) (words : List ℕ) → (step_of b reset e wants holds words).number ≡ unless (in_bounds b) 5 (unless (lawful_words words) 3 0)
  unfolding step_of
  step_order wants holds words =
      by-test (in_bounds b) (λ p. by-test (lawful_words words) (λ q. rw (p, q)) (λ q. rw (p, q))) (λ p. rw p)

  pub step_unmoved : (wants holds : ℕ) (words : List ℕ) → ((step_of b reset e wants holds words).number ≡ 0 → ⊥)
      → (step_of b reset e wants holds words).value ≡ record { bus = b; reply = silent }
  unfolding step_of
  step_unmoved wants holds words =
      by-test (in_bounds b) (λ p. by-test (lawful_words words) (λ q. rw (p, q) (λ n. absurd (n refl))) (λ q. rw (p, q) (λ n. refl))) (λ p. rw p (λ n. refl))

  -- over the caller's table: 5 before 1 before 3
  pub table_order : (nodes : List Node)
      → (step_table_of b reset e nodes).number ≡ unless (in_bounds b) 5 (unless (eqb (length nodes) 16) 1 (unless (lawful_words (sets_of nodes).words) 3 0))
  unfolding step_table_of
  table_order nodes =
      by-test (in_bounds b)
      (λ p. by-test (eqb (length nodes) 16) (λ q. rw (p, q) (step_order _ _ _ ∙ rw p)) (λ q. rw (p, q)))
      (λ p. rw p)

  pub table_unmoved : (nodes : List Node) → ((step_table_of b reset e nodes).number ≡ 0 → ⊥) → (step_table_of b reset e nodes).value ≡ record { bus = b; reply = silent }
  unfolding step_table_of
  table_unmoved nodes =
      by-test (in_bounds b)
      (λ p. by-test (eqb (length nodes) 16) (λ q. rw (p, q) (step_unmoved _ _ _)) (λ q. rw (p, q) (λ n. refl)))
      (λ p. rw p (λ n. refl))
