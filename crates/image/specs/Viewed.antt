-- The value of an image's records.
use Rattle.records.specs.declared.Records.{Records}
use Rattle.image.specs.View.{view_of}
use Rattle.image.specs.Vir.{Vir}

abbrev pub viewed : Records → Vir
viewed r = view_of r.bytes.now r.counts
