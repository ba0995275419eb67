-- Document 01, "Bounds for refusal 5: .. for the judge, limit 1 to 16, age at most 256, words 1 to 16, strobes below words, turn at most the
-- limit, ARB at most 15; span at most 2^31 times records; starts, acks, aborted at most records." Of what document 02's wish 3 adds: an open transfer's
-- busy cycles are at most 256 for each strobe, its age and one (the watchdog restarts with each, by wish 5), and the owner's slot is at most 15. As tests
-- and as facts.
use Rattle.std.specs.Prelude.{ℕ, ◌+◌, ◌*◌, ◌^◌, ◌≤◌, ◌<◌, Bool, true, ◌&&◌, leb, ltb, Option, Some, None}
use Rattle.rules.specs.declared.Judge.{Judge}
use Rattle.rules.specs.declared.Tally.{Tally}
use Rattle.rules.specs.declared.Transfer.{Transfer}
use Rattle.rules.specs.declared.Transfer.TheVariants.{Idle, Open}
use Rattle.basics.specs.Numbers.{watchdog, lawful_limit}

-- ---- as tests
abbrev pub transfer_bounds : Transfer → Bool
transfer_bounds Idle = true
transfer_bounds (Open words strobes age busy) =
    leb 1 words && leb words 16 && ltb strobes words && leb age watchdog && leb busy (watchdog * strobes + age + 1)

abbrev pub owner_bounds : Option ℕ → Bool
owner_bounds None = true
owner_bounds (Some slot) = leb slot 15

unfoldable pub judge_bounds : Judge → Bool
judge_bounds j =
    lawful_limit j.limit
    && transfer_bounds j.transfer
    && leb j.wave.turn j.limit
    && leb j.wave.arb 15
    && owner_bounds j.wave.owner

unfoldable pub tally_bounds : Tally → Bool
tally_bounds t =
    leb t.span (2 ^ 31 * t.records)
    && leb t.starts t.records
    && leb t.acks t.records
    && leb t.aborted t.records

-- ---- as facts
pub record SoundOpen (words strobes age busy : ℕ) : Type 0 where
  pub low : 1 ≤ words
  pub high : words ≤ 16
  pub few : strobes < words
  pub young : age ≤ watchdog
  pub spent : busy ≤ watchdog * strobes + age + 1

abbrev pub SoundTransfer : Transfer → Type 0
SoundTransfer Idle = Unit {0}
SoundTransfer (Open words strobes age busy) = SoundOpen words strobes age busy

abbrev pub SoundOwner : Option ℕ → Type 0
SoundOwner None = Unit {0}
SoundOwner (Some slot) = slot ≤ 15

pub record SoundJudge (j : Judge) : Type 0 where
  pub low : 1 ≤ j.limit
  pub high : j.limit ≤ 16
  pub transfer : SoundTransfer j.transfer
  pub turn : j.wave.turn ≤ j.limit
  pub arb : j.wave.arb ≤ 15
  pub owner : SoundOwner j.wave.owner

pub record SoundTally (t : Tally) : Type 0 where
  pub span : t.span ≤ 2 ^ 31 * t.records
  pub starts : t.starts ≤ t.records
  pub acks : t.acks ≤ t.records
  pub aborted : t.aborted ≤ t.records
