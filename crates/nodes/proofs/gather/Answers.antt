-- `nodes::gather` meets its contract. Assumes nothing.
use Prim.Native.Nat.{ℕ, zero, suc, ◌+◌}
use mathlib.Core.Path.{◌≡◌, refl, sym, ◌∙◌}
use mathlib.Core.Bool.{Bool, false}
use mathlib.Core.List.{List, [], ◌∷◌}
use lib.ListN.{get_or, length}
use native.Mathlib.Omega.{arith}
use Rattle.std.proofs.Common.{rules, slice_get, Option, Some, None, replicate}
use Rattle.std.specs.Array.{AllOfLen}
use Rattle.std.specs.Option.{UnwrapsOrElse}
use Rattle.std.proofs.lemmas.Option.{gets}
use Rattle.std.proofs.lemmas.List.{get_or-replicate}
use Rattle.std.proofs.lemmas.Grind.{same_number_lists}
use Rattle.cycle.specs.declared.Node.{Node}
use Rattle.cycle.specs.declared.Sets.{Sets}
use Rattle.cycle.specs.Nodes.{blank, no_nodes, add_of, gathered, sets_of}
use Rattle.nodes.proofs.gather.Goals as goal

all_read : (i : ℕ) (l : List Node) → i ≡ 16 → gathered i l ≡ sets_of l
unfolding sets_of
all_read i l e = rw e

one-read : (i : ℕ) (l : List Node) → add_of (gathered i l) i (get_or l i blank) ≡ gathered (i + 1) l
unfolding gathered
one-read i l = let e : i + 1 ≡ suc i = omega arith in rw e

same_sets : (wants holds : ℕ) (words : List ℕ) → wants ≡ 0 → holds ≡ 0 → words ≡ replicate 16 0
    → ◌≡◌ {A = Sets} (record { wants = wants; holds = holds; words = words }) no_nodes
same_sets wants holds words w h z = cc

-- the default sets are those of no node
none_read : (s : Sets) (l : List Node) → s.wants ≡ 0 → s.holds ≡ 0 → AllOfLen (λ (n : ℕ). n ≡ 0) s.words 16 → s ≡ gathered 0 l
unfolding gathered
none_read s l w h z =
    let long : length s.words ≡ length {A = ℕ} (replicate 16 0) = z.long in
    let zeros : s.words ≡ replicate 16 0 =
    same_number_lists s.words (replicate 16 0) long (λ k b. z.at k 0 (omega arith) ∙ sym (get_or-replicate 16 k 0 0 (omega arith)))
    in same_sets s.wants s.holds s.words w h zeros

-- the default node asks for nothing
no_node : (wants holds : Bool) (words : ℕ) → wants ≡ false → holds ≡ false → words ≡ 0
    → ◌≡◌ {A = Node} (record { wants = wants; holds = holds; words = words }) blank
no_node wants holds words w h z = cc

-- a table lacks the slots past its end
past_end : (l : List Node) (i : ℕ) → ◌≡◌ {A = Option Node} None (slice_get l i) → blank ≡ get_or l i blank
past_end [] i e = refl
past_end (n ∷ l) zero e = absurd (let z : ◌≡◌ {A = ℕ} 0 1 = cc in omega arith)
past_end (n ∷ l) (suc i) e = past_end l i e

within : (n : Node) (l : List Node) (i : ℕ) → Some n ≡ slice_get l i → n ≡ get_or l i blank
within n [] i e = absurd (let z : ◌≡◌ {A = ℕ} 0 1 = cc in omega arith)
within n (m ∷ l) zero e = cc
within n (m ∷ l) (suc i) e = within n l i e

-- the node that is read, or the default one
node-read : (o : Option Node) (n : Node) (P : Node → Type 0) → UnwrapsOrElse o P n → ((m : Node) → P m → m ≡ blank) → (l : List Node) (i : ℕ) → o ≡ slice_get l i → n ≡ get_or l i blank
node-read None n P u d l i e = d n u ∙ past_end l i e
node-read (Some x) n P u d l i e = u ∙ within x l i e

pub loop-slot-init : goal.loop-slot-init
loop-slot-init c = let h = c.default-sets.ensures in none_read _ _ h.0 h.1.0 h.1.1

pub loop-slot-preserved : goal.loop-slot-preserved
loop-slot-preserved c =
    let found : c.copied.result ≡ slice_get c.args.nodes.now c.loop-slot.slot = search (rules, gets) in
    let read = node-read c.copied.result _ _ c.unwrap_or_default-node.ensures (λ m p. no_node m.wants m.holds m.words p.0 p.1.0 p.1.1) c.args.nodes.now c.loop-slot.slot found in
    c.add_node-sets.ensures ∙ rw (c.loop-slot.invariant, read) (one-read c.loop-slot.slot _)

pub returns : goal.returns
returns c = c.loop-slot.invariant ∙ all_read c.loop-slot.slot _ (omega arith)
