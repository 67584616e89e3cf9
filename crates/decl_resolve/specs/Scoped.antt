-- Names in scope, each with a value. Of two equal names the later is meant.
use Rattle.std.specs.Prelude.{ℕ, List, [], ◌∷◌, ◌++◌, take, slice_get, Option, option_and_then}
use Rattle.decl_resolve.specs.Names.{Names, last_place}

abbrev pub no_names : {T : Type 0} → Names T
no_names = record { names = []; values = [] }

-- the names in scope
abbrev pub names_in : {T : Type 0} → Names T → List ℕ
names_in scoped = scoped.names

-- their values
abbrev pub values_in : {T : Type 0} → Names T → List T
values_in scoped = scoped.values

-- with one name more
abbrev pub with_name : {T : Type 0} → Names T → ℕ → T → Names T
with_name scoped name value = record { names = scoped.names ++ name ∷ []; values = scoped.values ++ value ∷ [] }

-- the first of the names
abbrev pub names_left : {T : Type 0} → Names T → ℕ → Names T
names_left scoped len = record { names = take len scoped.names; values = take len scoped.values }

-- the place of the last of a name
abbrev pub place_in : {T : Type 0} → Names T → ℕ → Option ℕ
place_in scoped name = last_place (names_in scoped) name

-- the value that a name means
abbrev pub value_in : {T : Type 0} → Names T → ℕ → Option T
value_in scoped name = option_and_then (λ place. slice_get (values_in scoped) place) (place_in scoped name)
