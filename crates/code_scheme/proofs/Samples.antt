-- The code of the small programs, by computing it.
use Rattle.std.proofs.Common.{refl}
use Rattle.code_scheme.specs.Pieces.{line, with_site, with_text, with_branches, beside}
use Rattle.code_scheme.specs.Samples.{SamplesStand}
use Rattle.code_scheme.specs.Whole.{compiled}

pub samples_stand : SamplesStand
unfolding compiled line with_site with_text with_branches beside
samples_stand = record { sum = refl; loop = refl; branches = refl; site = refl; whole = refl; parts = refl }
