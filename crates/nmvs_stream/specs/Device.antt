-- The model of a device, as a source and as a sink (own).
use Rattle.std.specs.Prelude.{length}
use Rattle.nmvs_stream.specs.Source.{Told}
use Rattle.nmvs_stream.specs.Sink.{Taken}
use Rattle.nmvs_stream.specs.declared.device.Device.{Device}

abbrev pub told_of : {D : Type 0} → Device D → Told
told_of d = record { bytes = d.given.bytes.numbers; reads = length d.given.calls.numbers; ended = d.ended; failed = d.failed }

abbrev pub taken_of : {D : Type 0} → Device D → Taken
taken_of d = record { bytes = d.taken.numbers; flushed = d.flushed; failed = d.failed }
