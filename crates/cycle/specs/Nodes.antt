-- Document 01: "a table of sixteen node records that the caller lends: wants, holds, words". Slot i is in the set exactly if node i wants
-- (holds), and its words are node i's.
use Rattle.std.specs.Prelude.{ℕ, zero, suc, Bool, false, cond, List, length, get_or, set, replicate, eqb}
use Rattle.basics.specs.Answers.{Answer, refused}
use Rattle.slots.specs.Set.{including}
use Rattle.cycle.specs.declared.Bus.{Bus}
use Rattle.cycle.specs.declared.Event.{Event}
use Rattle.cycle.specs.declared.Node.{Node}
use Rattle.cycle.specs.declared.Sets.{Sets}
use Rattle.cycle.specs.declared.Moved.{Moved}
use Rattle.cycle.specs.Bounds.{in_bounds}
use Rattle.cycle.specs.Cycle.{step_of, unmoved}

-- a node that asks for nothing
abbrev pub blank : Node
blank = record { wants = false; holds = false; words = 0 }

-- the sets of no node
abbrev pub no_nodes : Sets
no_nodes = record { wants = 0; holds = 0; words = replicate 16 0 }

-- the set w with slot i in it, where its node says so
unfoldable pub joined_of : ℕ → ℕ → Bool → ℕ
joined_of w i on = cond on (including i w) w

-- the sets with node i in them
unfoldable pub add_of : Sets → ℕ → Node → Sets
add_of s i n =
    record {
      wants = joined_of s.wants i n.wants;
      holds = joined_of s.holds i n.holds;
      words = set s.words i n.words;
    }

-- of the nodes below k
unfoldable pub gathered : ℕ → List Node → Sets
gathered zero nodes = no_nodes
gathered (suc k) nodes = add_of (gathered k nodes) k (get_or nodes k blank)

-- of all sixteen
unfoldable pub sets_of : List Node → Sets
sets_of nodes = gathered 16 nodes

-- a call over sets
abbrev pub step_sets_of : Bus → Bool → Event → Sets → Answer Moved
step_sets_of b reset e s = step_of b reset e s.wants s.holds s.words

-- a call over the caller's table: refusals 5, 1 and 3 in this order
unfoldable pub step_table_of : Bus → Bool → Event → List Node → Answer Moved
step_table_of b reset e nodes =
    cond (in_bounds b)
    (cond (eqb (length nodes) 16) (step_sets_of b reset e (sets_of nodes)) (refused 1 (unmoved b)))
    (refused 5 (unmoved b))
