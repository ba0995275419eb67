-- `bus::bounds::are_words` meets its contract: `all` asks of each slot's words what `lawful_words` does, from the other end. Assumes nothing.
use Prim.Native.Nat.{ℕ, zero, suc}
use mathlib.Core.Path.{◌≡◌, refl, sym, ap, ◌∙◌}
use mathlib.Core.Bool.{Bool, true, false, ◌&&◌}
use mathlib.Core.List.{List, [], ◌∷◌}
use native.Mathlib.Omega.{arith}
use lib.ListN.{length, get_or}
use borrow.Author.Tests.{tests}
use Rattle.std.proofs.Common.{rules}
use Rattle.std.specs.List.{list_all}
use Rattle.std.proofs.lemmas.Iterator.{YieldsList-from_slice}
use Rattle.std.proofs.lemmas.Iterator.Search.{all_from_yields_List}
use Rattle.cycle.specs.Bounds.{lawful_word, lawful_below}
use Rattle.bus.proofs.bounds.are_words.Goals as goal

swap : (a b c : Bool) → (a && (b && c)) ≡ (b && (a && c))
swap true true c = refl
swap true false c = refl
swap false true c = refl
swap false false c = refl

from-front : (k n : ℕ) (words : List ℕ) → lawful_below (suc k) (n ∷ words) ≡ (lawful_word n && lawful_below k words)
unfolding lawful_below
from-front zero n words = refl
from-front (suc k) n words =
    ap (λ (b : Bool). lawful_word (get_or words k 0) && b) (from-front k n words) ∙ swap (lawful_word (get_or words k 0)) (lawful_word n) (lawful_below k words)

all-below : (words : List ℕ) → list_all lawful_word words ≡ lawful_below (length words) words
unfolding lawful_below
all-below [] = refl
all-below (n ∷ words) = ap (λ (b : Bool). lawful_word n && b) (all-below words) ∙ sym (from-front (length words) n words)

pub returns : goal.returns
returns c =
    all_from_yields_List lawful_word _ _ _ c.all.ensures.ran (YieldsList-from_slice c.args.words cc) (λ x b q k. search (rules, tests))
    ∙ all-below c.args.words
    ∙ ap (λ (n : ℕ). lawful_below n c.args.words) (omega arith)
