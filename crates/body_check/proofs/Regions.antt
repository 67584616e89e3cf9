-- Local regions, where all names of the statement were declared.
use Rattle.std.proofs.Common.{◌≡◌, ◌++◌, List, [], ◌∷◌, map}
use Rattle.std.proofs.lemmas.List.{append-nil}
use Rattle.syntax_tree.specs.declared.region.Named.{Named}
use Rattle.lang_typed.specs.declared.ids.LocalRegion.{LocalRegion}
use Rattle.lang_typed.specs.declared.stmt.StmtForm.TheVariants as kinds
use Rattle.lang_typed.specs.Plain.{plain_stmt}
use Rattle.body_exprs.specs.declared.env.Env.{Env}
use Rattle.body_exprs.specs.declared.found.Found.{Found}
use Rattle.body_check.specs.declared.node.Node.{Node}
use Rattle.body_check.specs.Noting.{fault_of}
use Rattle.body_check.specs.Simple.{declare_regions, regions_made, regions_noted, with_regions}
use Rattle.body_check.specs.Walks.{judged}
use Rattle.body_check.proofs.Making.{made, made_Regions}
use Rattle.body_check.proofs.Passing.{walk_from}

pub regions_are : (node last : Node) (env after : Env) (names left : List Named) (regions : List LocalRegion) (found : Found) → left ≡ [] →
    regions_noted after last left ≡ regions_noted env node names → with_regions after left ≡ with_regions env names →
    map (λ region. region.number) regions ++ regions_made after left ≡ regions_made env names →
    declare_regions node names (walk_from env found)
    ≡ judged (fault_of last) (plain_stmt (made node.place (kinds.Regions regions))) (walk_from after found)
regions_are node last env after names [] regions found over noted scope made_so =
    rw (made_Regions node.place regions, ← noted, ← scope, ← made_so, append-nil (map (λ region. region.number) regions))
regions_are node last env after names (named ∷ left) regions found over noted scope made_so = cc
