-- When faults are reported: in a body those of each part at once, in a signature later, by the pass.
use Rattle.std.specs.Prelude.{List, [], ◌∷◌, fold, Option, None}
use Rattle.std.specs.Option.{option_or}
use Rattle.lang_base.specs.declared.refusal.Refusal.{Refusal}
use Rattle.decl_headers.specs.declared.faults.Faults.{Faults}
use Rattle.decl_headers.specs.Faults.{reported, all_noted}
use Rattle.decl_resolve.specs.declared.scope.Site.{Site}
use Rattle.decl_resolve.specs.declared.scope.Site.TheVariants as site

-- the fault that is reported now, of those that are noted
abbrev pub reported_at : Site → Faults → Option Refusal
reported_at site.Signature faults = None
reported_at site.Body faults = reported faults

-- the fault that is reported, where parts are read one after the other and each has these faults: that of the first part
-- after which one is reported
abbrev pub parts_reported : Site → Faults → List (List Refusal) → Option Refusal
parts_reported at faults [] = None
parts_reported at faults (part ∷ parts) = option_or (reported_at at (all_noted faults part)) (parts_reported at (all_noted faults part) parts)

-- with the faults of all the parts
abbrev pub parts_noted : Faults → List (List Refusal) → Faults
parts_noted faults parts = fold all_noted faults parts
