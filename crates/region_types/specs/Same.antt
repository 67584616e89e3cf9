-- Whether two types are the same, as a test.
use Rattle.std.specs.Prelude.{Bool, true, false, ◌&&◌, ◌==◌, List, [], ◌∷◌}
use Rattle.lang_base.specs.declared.region.Rpl.{Rpl}
use Rattle.lang_base.specs.Effects.{same_rpl}
use Rattle.lang_base.specs.Types.{PlainType}
use Rattle.lang_base.specs.Types.PlainType.{int, boolean, void, null, class, array}

abbrev pub same_paths : List Rpl → List Rpl → Bool
same_paths [] [] = true
same_paths (a ∷ rs) (b ∷ ss) = same_rpl a b && same_paths rs ss
same_paths rs ss = false

abbrev pub same_type : PlainType → PlainType → Bool
same_type int int = true
same_type boolean boolean = true
same_type void void = true
same_type null null = true
same_type (class c rs) (class d ss) = (c == d) && same_paths rs ss
same_type (array elem rpl named) (array elem' rpl' named') = same_rpl rpl rpl' && same_type elem elem'
same_type a b = false
