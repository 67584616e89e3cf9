-- Whether values may stand where types are declared for some regions, where the region arguments of a call or a creation
-- aren't known.
use Rattle.std.specs.Prelude.{Bool, true, false, ◌&&◌, ◌==◌, List, [], ◌∷◌, Option, Some, None}
use Rattle.lang_base.specs.declared.ty.Ty.{Ty}
use Rattle.lang_base.specs.Types.{PlainType, plain_type}
use Rattle.lang_base.specs.Types.PlainType.{int, boolean, null, class, array}
use Rattle.decl_headers.specs.declared.header.Headers.{Headers}
use Rattle.decl_headers.specs.Headers.{is_below}

-- two types are the same for some regions
abbrev pub may_equal : PlainType → PlainType → Bool
may_equal int int = true
may_equal boolean boolean = true
may_equal (class c args) (class d others) = c == d
may_equal (array elem rpl named) (array other path other_named) = may_equal elem other
may_equal t u = false

-- the first is a subtype of the second for some regions
abbrev pub may_be_subtype : Headers → PlainType → PlainType → Bool
may_be_subtype headers int int = true
may_be_subtype headers boolean boolean = true
may_be_subtype headers null (class c args) = true
may_be_subtype headers null (array elem rpl named) = true
may_be_subtype headers (class c args) (class d others) = is_below headers c d
may_be_subtype headers (array elem rpl named) (array other path other_named) = may_equal elem other
may_be_subtype headers t u = false

abbrev pub may_fit : Headers → Option PlainType → PlainType → Bool
may_fit headers None declared = true
may_fit headers (Some t) declared = may_be_subtype headers t declared

-- as many values as declared types, each of which may fit the one at its place
abbrev pub shapes_fit : Headers → List (Option PlainType) → List Ty → Bool
shapes_fit headers [] [] = true
shapes_fit headers [] (t ∷ declared) = false
shapes_fit headers (v ∷ values) [] = false
shapes_fit headers (v ∷ values) (t ∷ declared) = may_fit headers v (plain_type t) && shapes_fit headers values declared
