use Rattle.std.proofs.Common.{sym, subst}
use Rattle.syntax_tree.specs.declared.class.Program.{Program}
use Rattle.syntax_means.specs.Means.{Means}
use Rattle.syntax_means.proofs.elided.Programs.{one_elision}
use Rattle.syntax_means.proofs.unique.Names.{apart_in_text}
use Rattle.syntax_means.proofs.unique.Programs.{one_program}
use Rattle.syntax_means.proofs.OneTree.{one_tree_of}
use Rattle.syntax_means.proofs.laws.law_one_meaning.Goals as goal

pub returns : goal.returns
returns c = λ text first second P Q a b argument limits.
    let same = one_tree_of c.one_cutting.ensures c.one_tree.ensures text first second a.has_tree b.has_tree in
    let means : Means first Q = subst (λ (tree : Program). Means tree Q) (sym same) b.means in
    one_elision P Q (one_program first P Q a.unambiguous (apart_in_text text first a.has_tree a.unambiguous.class_params) a.means means a.well_typed b.well_typed) a.well_typed b.well_typed argument limits
