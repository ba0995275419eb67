-- A search for marks that is fed an input in pieces: its state, its bounds for refusal 5, and what `fresh`, `feed` and `finish` answer.
use Rattle.std.specs.Prelude.{ℕ, zero, suc, ◌+◌, Bool, true, not, cond, ◌&&◌, Option, None, Some, List, [], ◌++◌, take, drop, get_or, set, replicate, eqb, leb}
use Rattle.basics.specs.Answers.{Answer, accepted, refused}
use Rattle.basics.specs.Numbers.{lawful_limit}
use Rattle.basics.specs.Order.{unless}
use Rattle.record.specs.declared.Record.{Record}
use Rattle.record.specs.Layout.{record_in}
use Rattle.rules.specs.declared.Verdict.{Verdict}
use Rattle.rules.specs.declared.Verdict.TheVariants.{Conforming, Breach, OutOfBounds as OutOf, TooMany as Many, Torn as TornEnd}
use Rattle.feeding.specs.declared.Stream.{Stream}
use Rattle.feeding.specs.declared.Ending.{Ending}
use Rattle.feeding.specs.Input.{whole_in}
use Rattle.feeding.specs.State.{goes, torn_of, stream_bounds, state_with, fresh_stream, no_stream, feed_of, finish_of}
use Rattle.marks.specs.declared.Mark.{Mark}
use Rattle.marks.specs.declared.Marks.{Marks}
use Rattle.marks.specs.declared.Search.{Search}
use Rattle.marks.specs.declared.Phases.{Phases}
use Rattle.marks.specs.declared.Why.{Why}
use Rattle.marks.specs.declared.Why.TheVariants.{Complete, AtBreach, Torn, TooMany, Absent, OutOfBounds}
use Rattle.marks.specs.declared.Report.{Report}
use Rattle.marks.specs.Marks.{zero_mark, mark_at, is_start_of}
use Rattle.marks.specs.Report.{diffs_of}

-- ---- the marks
-- "The caller names 1 to 32 marks"
abbrev pub some_marks : Marks → Bool
some_marks m = leb 1 m.count && leb m.count 32

-- the slots and the numbers of the first n are 0 to 15
abbrev pub named_to : Marks → ℕ → Bool
named_to m zero = true
named_to m (suc n) = named_to m n && leb (mark_at m n).slot 15 && leb (mark_at m n).number 15

unfoldable pub lawful_marks : Marks → Bool
lawful_marks m = some_marks m && named_to m m.count

-- refusals: "9, no or too many marks, first of all"; 2, a mark's slot or number over 15; then as the judge's, "3: hold limit not 1 to 16"
unfoldable pub begin_refusal : ℕ → Marks → ℕ
begin_refusal limit m = unless (some_marks m) 9 (unless (named_to m m.count) 2 (unless (lawful_limit limit) 3 0))

-- ---- the search
abbrev pub waiting : Search → Option ℕ → Search
waiting s w = record { spans = s.spans; found = s.found; pending = w }

-- a success counts the write that was waited for, with the span at its START; any other end drops it
abbrev pub acked : Search → Option ℕ → Bool → Search
acked s None success = waiting s None
acked s (Some span) success =
    cond success (record { spans = set s.spans s.found span; found = s.found + 1; pending = None }) (waiting s None)

-- after a record, the mark looked for being this one and the span up to the record so many cycles: RESET drops what is waited for; a START is the
-- mark's or not; an ACK ends it
unfoldable pub seen_of : Mark → Search → Record → ℕ → Search
seen_of m s r span =
    cond r.reset (waiting s None)
    (cond r.start (waiting s (cond (is_start_of m r) (Some span) None))
    (cond r.ack (acked s s.pending (r.tm1 && r.tm0)) s))

-- all marks are found
abbrev pub all_found : Phases → Bool
all_found p = leb p.marks.count p.search.found

-- more of the input counts: nothing has ended the judging, and a mark is missing still
unfoldable pub under_way : Phases → Bool
under_way p = goes p.stream.stop && not (all_found p)

-- the bounds for refusal 5: those of the judge in pieces; marks that would not be refused; no more found than there are, their spans in order
abbrev pub rises_to : List ℕ → ℕ → Bool
rises_to spans zero = true
rises_to spans (suc zero) = true
rises_to spans (suc (suc n)) = rises_to spans (suc n) && leb (get_or spans n 0) (get_or spans (suc n) 0)

unfoldable pub phases_bounds : Phases → Bool
phases_bounds p =
    stream_bounds p.stream && lawful_marks p.marks && leb p.search.found p.marks.count && rises_to p.search.spans p.search.found

-- ---- going on with more bytes
abbrev pub with_stream : Phases → Stream → Phases
with_stream p s = record { stream = s; marks = p.marks; search = p.search }

-- the search sees a record that has been judged, unless it broke a rule or was one too many
unfoldable pub saw_of : Phases → Stream → Record → Phases
saw_of p s r =
    cond (goes s.stop)
    (record { stream = s; marks = p.marks; search = seen_of (mark_at p.marks p.search.found) p.search r s.tally.span })
    (with_stream p s)

-- the next record is judged, and seen; nothing is looked at any more once this is over
unfoldable pub next_seen : Phases → List ℕ → Phases
next_seen p sixteen = cond (under_way p) (saw_of p (feed_of p.stream sixteen) (record_in sixteen)) p

-- what is left behind the last whole record waits in the judge's state
unfoldable pub rest_kept : Phases → List ℕ → Phases
rest_kept p rest = cond (under_way p) (with_stream p (feed_of p.stream rest)) p

-- n records, one after another, and the rest
abbrev pub gone_through : ℕ → Phases → List ℕ → Phases
gone_through zero p bytes = rest_kept p bytes
gone_through (suc n) p bytes = gone_through n (next_seen p (take 16 bytes)) (drop 16 bytes)

-- ---- the calls
abbrev pub fresh_search : Search
fresh_search = record { spans = replicate 32 0; found = 0; pending = None }

-- an input from the start
unfoldable pub fresh_phases : ℕ → Marks → Phases
fresh_phases limit m = record { stream = fresh_stream limit; marks = m; search = fresh_search }

-- all zeros: what a refusal gives
abbrev pub no_marks : Marks
no_marks = record { marks = replicate 32 zero_mark; count = 0 }

unfoldable pub no_phases : Phases
no_phases = record { stream = no_stream; marks = no_marks; search = fresh_search }

unfoldable pub begun_of : ℕ → Marks → Answer Phases
begun_of limit m = cond (eqb (begin_refusal limit m) 0) (accepted (fresh_phases limit m)) (refused (begin_refusal limit m) no_phases)

-- a piece is put behind the torn record; once this is over, nothing changes any more
abbrev pub untorn : Phases → Phases
untorn p = with_stream p (state_with p.stream.stop p.stream.judge p.stream.tally [])

unfoldable pub fed_phases : Phases → List ℕ → Phases
fed_phases p piece =
    cond (under_way p) (gone_through (whole_in (torn_of p.stream ++ piece)) (untorn p) (torn_of p.stream ++ piece)) p

-- refusal 5 hands the state back
unfoldable pub phased_of : Phases → List ℕ → Answer Phases
phased_of p piece = cond (phases_bounds p) (accepted (fed_phases p piece)) (refused 5 p)

-- why the report ends, from the judge's verdict on what was fed: a conforming end lacks the mark that is looked for
abbrev pub lacking : ℕ → Verdict → Why
lacking place Conforming = Absent place
lacking place (Breach b) = AtBreach b
lacking place OutOf = OutOfBounds
lacking place Many = TooMany
lacking place TornEnd = Torn

abbrev pub report_with : Phases → Ending → Report
report_with p e =
    record {
      why = cond (all_found p) Complete (lacking p.search.found e.verdict);
      found = p.search.found;
      spans = p.search.spans;
      diffs = diffs_of p.search.spans p.search.found;
      records = e.tally.records;
    }

-- refusal 5 gives 0 for every other value
unfoldable pub no_report : Report
no_report = record { why = OutOfBounds; found = 0; spans = replicate 32 0; diffs = replicate 32 0; records = 0 }

unfoldable pub report_of : Phases → Report
report_of p = cond (phases_bounds p) (report_with p (finish_of p.stream)) no_report
