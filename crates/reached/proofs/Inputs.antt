-- The inputs of the runs that reach demand 3's numbers: all sixteen ask and hold, or one asks alone for an attention cycle. Assumes nothing.
use Prim.Native.Nat.{ℕ, zero, suc, ◌≤◌, ◌<◌}
use mathlib.Core.Path.{◌≡◌, refl, sym, ap, ◌∙◌}
use mathlib.Core.Bool.{true}
use mathlib.Core.List.{List}
use native.Mathlib.Omega.{arith}
use native.Mathlib.Decide.{ℕ_discrete}
use lib.ListN.{replicate, get_or, length-set, get_or-replicate}
use lib.Seq.{get_or-set_same, get_or-set_other}
use lib.Dec.{eqb}
use Rattle.basics.specs.Lines.{bit, active}
use Rattle.basics.proofs.Bools.{both_and}
use Rattle.slots.specs.Set.{mem, including}
use Rattle.cycle.specs.declared.Node.{Node}
use Rattle.cycle.specs.declared.Event.{Event}
use Rattle.cycle.specs.declared.Event.TheVariants.{Nothing}
use Rattle.cycle.specs.Bounds.{lawful_word, lawful_below, lawful_words}
use Rattle.cycle.specs.Arbitration.{attends}
use Rattle.cycle.specs.Nodes.{blank, joined_of, add_of, gathered, sets_of}
use Rattle.cycle.specs.Runs.{Input, wants_in, holds_in, words_in}
use Rattle.reached.specs.Cases.{attender, single}
use Rattle.cycle.proofs.NodeLaws.{wants_mean, holds_mean, words_mean}

-- the words of a table are lawful if each node's are
pub lawful_by : (nodes : List Node) → ((k : ℕ) → k < 16 → lawful_word (get_or nodes k blank).words ≡ true) → lawful_words (sets_of nodes).words ≡ true
unfolding lawful_below
lawful_by nodes f = below 16 (omega arith)
  where
    below : (k : ℕ) → k ≤ 16 → lawful_below k (sets_of nodes).words ≡ true
    below zero h = refl
    below (suc k) h = both_and _ _ (ap lawful_word (words_mean nodes k (omega arith)) ∙ f k (omega arith)) (below k (omega arith))

-- ---- all want and hold, with n words each
abbrev holding : ℕ → Node
holding n = record { wants = true; holds = true; words = n }

-- the set of all sixteen
abbrev pub everyone : ℕ
everyone = 65535

unfoldable pub full : Event → (n : ℕ) → lawful_word n ≡ true → Input
full e n h =
    record {
      event = e;
      nodes = replicate 16 (holding n);
      sixteen = refl;
      lawful = lawful_by (replicate 16 (holding n)) (λ k l. ap (λ (x : Node). lawful_word x.words) (get_or-replicate 16 k (holding n) blank l) ∙ h);
    }

module _ (e : Event) (n : ℕ) (h : lawful_word n ≡ true) where
  full_at : (s : ℕ) → s < 16 → get_or (full e n h).nodes s blank ≡ holding n
  unfolding full
  full_at s l = get_or-replicate 16 s (holding n) blank l

  pub full-asks : (s : ℕ) → s < 16 → (get_or (full e n h).nodes s blank).wants ≡ true
  full-asks s l = ap (λ (x : Node). x.wants) (full_at s l)

  pub full-holds : (s : ℕ) → s < 16 → mem s (holds_in (full e n h)) ≡ true
  full-holds s l = holds_mean (full e n h).nodes s l ∙ ap (λ (x : Node). x.holds) (full_at s l)

  pub full-words : (s : ℕ) → s < 16 → get_or (words_in (full e n h)) s 0 ≡ n
  full-words s l = words_mean (full e n h).nodes s l ∙ ap (λ (x : Node). x.words) (full_at s l)

  pub full_wants : wants_in (full e n h) ≡ everyone
  unfolding full sets_of gathered add_of joined_of including active bit
  full_wants = refl

  -- it attends exactly where the words are 0
  pub full-attends : (s : ℕ) → s < 16 → attends s (wants_in (full e n h)) (words_in (full e n h)) ≡ eqb n 0
  unfolding attends
  full-attends s l = rw (wants_mean (full e n h).nodes s l, full-asks s l, full-words s l)

pub all_in : (s : ℕ) → s < 16 → mem s everyone ≡ true
unfolding lawful_word
all_in s l =
    ap (mem s) (sym (full_wants Nothing 0 refl)) ∙ wants_mean (full Nothing 0 refl).nodes s l ∙ full-asks Nothing 0 refl s l

-- ---- slot m alone wants, with words 0
pub single-words : (m : ℕ) → m < 16 → (k : ℕ) → k < 16 → lawful_word (get_or (single m attender) k blank).words ≡ true
unfolding lawful_word
single-words m l k g =
    elim (ℕ_discrete k m) [
      | yes q ↦ rw q (ap (λ (x : Node). lawful_word x.words) (get_or-set_same (replicate 16 blank) m attender blank l))
      | no d ↦ ap (λ (x : Node). lawful_word x.words) (get_or-set_other (replicate 16 blank) m k attender blank d ∙ get_or-replicate 16 k blank blank g)
    ]

unfoldable pub alone_in : (m : ℕ) → m < 16 → Input
alone_in m l =
    record {
      event = Nothing;
      nodes = single m attender;
      sixteen = length-set (replicate 16 blank) m attender;
      lawful = lawful_by (single m attender) (single-words m l);
    }
