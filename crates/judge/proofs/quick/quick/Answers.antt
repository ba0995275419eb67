-- `judge::quick::quick` meets its contract. Assumes nothing.
use mathlib.Core.Path.{◌≡◌, ◌∙◌, sym}
use Rattle.rules.specs.declared.Progress.{Progress}
use Rattle.rules.specs.Run.{step_of}
use Rattle.judge.specs.Quick.{Plain}
use Rattle.judge.proofs.Steps.{plain_is, spare-none}
use Rattle.judge.proofs.quick.quick.Goals.{Else-not-first}
use Rattle.judge.proofs.quick.quick.Goals as goal

-- where the first tests hold
first-tests : (c : Else-not-first) → let a = c.args in Plain a.judge a.tally a.lines a.d × (a.spare ≡ 0)
first-tests c = plain_is c.args.judge c.args.tally c.args.lines c.args.spare c.args.d _ _ _ c.requires.0 c.requires.1.0 c.requires.1.1
    c.parity.ensures c.parity_right-parity.ensures c.plain-first.ensures c.if-not-first.false

spare-too : (c : Else-not-first) (p : Progress) → let a = c.args in p ≡ step_of a.judge a.tally (record { lines = a.lines; spare = 0 }) → p ≡ step_of a.judge a.tally (record { lines = a.lines; spare = a.spare })
spare-too c p e = let a = c.args in spare-none a.judge a.tally a.lines a.spare p (first-tests c).1 e

pub after_start-requires : goal.after_start-requires
after_start-requires c = record {
  plain = (first-tests (goal.at.after_start-requires c).Else-not-first).0;
  starts = c.if-lines.true;
  code = c.words_owed-words.ensures;
  holds = simp (sym c.is_open.ensures, sym c.turn_holds-in_turn.ensures) (sym c.start_holds-starts.ensures ∙ c.if-starts.true);
}

pub returns-then-starts : goal.returns-then-starts
returns-then-starts c = let e = c.after_start.ensures in (e.0, spare-too (goal.at.returns-then-starts c).Else-not-first _ e.1)

pub after_ack-requires : goal.after_ack-requires
after_ack-requires c = record {
  plain = (first-tests (goal.at.after_ack-requires c).Else-not-first).0;
  starts = c.if-lines.false;
  acks = c.if-lines-2.true;
  request = sym c.request_holds-asks.ensures ∙ c.if-not-asks.false;
  holds = sym c.ack_holds-ends.ensures ∙ c.if-ends.true;
}

pub returns-then-ends : goal.returns-then-ends
returns-then-ends c = let e = c.after_ack.ensures in (e.0, spare-too (goal.at.returns-then-ends c).Else-not-first _ e.1)

pub after_quiet-requires : goal.after_quiet-requires
after_quiet-requires c = record {
  plain = (first-tests (goal.at.after_quiet-requires c).Else-not-first).0;
  starts = c.if-lines.false;
  acks = c.if-lines-2.false;
  request = sym c.request_holds-asks.ensures ∙ c.if-not-asks.false;
  holds = sym c.quiet_holds-waits.ensures ∙ c.if-waits.true;
}

pub returns-then-waits : goal.returns-then-waits
returns-then-waits c = let e = c.after_quiet.ensures in (e.0, spare-too (goal.at.returns-then-waits c).Else-not-first _ e.1)
