use mathlib.Core.Path.{sym}
use Rattle.record.proofs.Bytes.{record_is}
use Rattle.record.proofs.read_record.Goals as goal

pub returns : goal.returns
returns c = rw (c.from_be_bytes-stamp.ensures, c.ad_of-ad.ensures, c.vad_of-vad.ensures) (sym (record_is c.args.part.now c.requires (λ k. (c.type_inv.part k).fits)))
