-- P1 to P9 hold, by computing on the definitions. Assumes nothing.
use mathlib.Core.Path.{refl}
use Rattle.basics.specs.Lines.{bit, active, active_below}
use Rattle.slots.specs.Set.{top_below}
use Rattle.record.specs.Layout.{packed}
use Rattle.codes.specs.Lanes.{lanes_of}
use Rattle.codes.specs.Start.{block_of, unit_of, decode_of}
use Rattle.codes.specs.Parity.{parity_of}
use Rattle.contest.specs.Contest.{winner_of}
use Rattle.cache.specs.States.{legal, valid, private, owns}
use Rattle.cache.specs.Block.{owner_below, supplied, guarded, sound, every, coherent}
use Rattle.cache.specs.Operations.{value_read, block_read, copy_left, block_written, block_evicted}
use Rattle.cache.specs.Tables.{placed, with_block}
use Rattle.cache.specs.Calls.{fit, named, refusal, after, read_of}
use Rattle.reached.proofs.Cases.{P7, P8}
use Rattle.examples.specs.Examples.{Examples}

pub examples : Examples
unfolding bit active active_below top_below packed lanes_of block_of unit_of decode_of parity_of winner_of legal valid private owns owner_below supplied guarded sound every coherent value_read block_read copy_left block_written block_evicted placed with_block fit named refusal after read_of
examples =
    record {
      p1 = refl;
      p2_eight = refl;
      p2_sixteen = refl;
      p2_none = refl;
      p3 = refl;
      p4_none = refl;
      p4_one = refl;
      p4_all = refl;
      p5_two = refl;
      p5_zero = refl;
      p6_wraps = refl;
      p6-most = refl;
      p6-more = refl;
      p6-equal = refl;
      p7 = P7;
      p8 = P8;
      p9_writes = refl;
      p9_reads = refl;
      p9_owner = refl;
      p9_reader = refl;
      p9_kept = refl;
      p9_evicts = refl;
      p9_memory = refl;
    }
