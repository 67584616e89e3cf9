-- Which classes have a row among the superclasses.
use Rattle.std.specs.Prelude.{ℕ, ◌+◌, ◌&&◌, cond, is_some, List, [], ◌∷◌, ◌++◌, map}
use Rattle.lang_base.specs.declared.ty.Super.{Super}
use Rattle.syntax_tree.specs.declared.class.Class.{Class}
use Rattle.decl_headers.specs.declared.header.Headers.{Headers}
use Rattle.decl_headers.specs.Headers.{parent_of}
use Rattle.decl_headers.specs.Numbers.{as_number}

-- the classes of the rows
abbrev pub classes_in : List Super → List ℕ
classes_in supers = map (λ row. row.class) supers

-- the class, where it extends one that is there
abbrev pub extending : Headers → ℕ → Class → List ℕ
extending headers number class = cond (is_some class.parent && is_some (parent_of headers number)) (number ∷ []) []

-- of all classes those that extend one, in the order of the text, counted on from a number
abbrev pub all_extending : Headers → ℕ → List Class → List ℕ
all_extending headers at [] = []
all_extending headers at (class ∷ classes) = extending headers (as_number at) class ++ all_extending headers (at + 1) classes
