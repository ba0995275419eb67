-- Each field stands where document 01's order has it: by computing. Assumes nothing.
use mathlib.Core.Path.{refl}
use Rattle.record.specs.Layout.{fields_in, record_in, spare_in}
use Rattle.record.specs.Places.{Places}

pub places : Places
unfolding fields_in record_in spare_in
places =
    record {
      stamp31 = refl;
      stamp0 = refl;
      reset = refl;
      rqst = refl;
      arb3 = refl;
      arb0 = refl;
      start = refl;
      ack = refl;
      tm1 = refl;
      tm0 = refl;
      sp = refl;
      spv = refl;
      ad31 = refl;
      ad0 = refl;
      vtm1 = refl;
      vtm0 = refl;
      vack = refl;
      vsack = refl;
      vad32 = refl;
      vad0 = refl;
      spare14 = refl;
      spare0 = refl;
    }
