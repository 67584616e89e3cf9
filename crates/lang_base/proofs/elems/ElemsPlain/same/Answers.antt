use Rattle.std.proofs.lemmas.Slice.Eq.{slice_eq-Decides}
use Rattle.lang_base.proofs.Equal.{elem_decides}
use Rattle.lang_base.proofs.elems.ElemsPlain.same.Goals as goal

pub returns : goal.returns
returns c = rw (← c.as_slice.ensures, ← c.as_slice-2.ensures) (slice_eq-Decides elem_decides _ _ _ c.eq.ensures)
