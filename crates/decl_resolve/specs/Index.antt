-- Index names of written array types: which array type around a place a name means. They are counted from the inside.
use Rattle.std.specs.Prelude.{ℕ, Bool, false, ◌==◌, List, [], ◌∷◌, ◌++◌, drop, map, Option, None, option_map}
use Rattle.std.specs.List.{position_from}
use Rattle.std.specs.Option.{option_map_or}
use Rattle.lang_base.specs.declared.elems.Index.{Index}
use Rattle.lang_base.specs.declared.elems.Index.TheVariants.{Own}
use Rattle.decl_headers.specs.Numbers.{as_number}
use Rattle.syntax_tree.specs.declared.region.Named.{Named}
use Rattle.syntax_tree.specs.declared.region.Suffix.{Suffix}
use Rattle.decl_resolve.specs.declared.index.IndexNames.{IndexNames}

-- the index names in scope at a place of an array type or an array creation
pub record PlainIndex : Type 0 where
  pub suffixes : List Suffix
  -- so many of the suffixes stand inside the place
  pub inside : ℕ
  -- the index name of the array that a creation makes, which is around all its suffixes
  pub made : Option Named

abbrev pub plain_index : IndexNames → PlainIndex
plain_index around = record { suffixes = around.suffixes.now; inside = around.inside; made = around.made }

-- no index names around a place
abbrev pub no_index : PlainIndex
no_index = record { suffixes = []; inside = 0; made = None }

abbrev pub is_named : ℕ → Option Named → Bool
is_named name index = option_map_or (λ named. named.name == name) index false

-- the index names of the array types around a place, the innermost first
abbrev pub names_around : PlainIndex → List (Option Named)
names_around around = map (λ suffix. suffix.index) (drop around.inside around.suffixes) ++ around.made ∷ []

-- the index that a name means: that of the innermost array type around with this index name
abbrev pub index_name : PlainIndex → ℕ → Option Index
index_name around name = option_map (λ depth. Own (as_number depth)) (position_from (is_named name) 0 (names_around around))
