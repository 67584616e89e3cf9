-- The names of fields from the highest class down.
use Rattle.std.proofs.Common.{◌≡◌, ◌∙◌, ℕ, List, [], ◌∷◌, ◌++◌, refl, sym, ap, append_assoc, Option, Some, None, option_map}
use Rattle.std.specs.Prelude.{slice_index_or}
use Rattle.std.proofs.lemmas.List.{append-nil}
use Rattle.std.specs.Option.{option_map_or}
use Rattle.lang_typed.specs.Plain.{PlainParent, PlainProgram}
use Rattle.tool_trace.specs.events.Names.{names_along, upwards}

-- the last of the classes is the highest
pub along_last : (fields : List (List (List ℕ))) (classes : List ℕ) (class : ℕ) → names_along fields (classes ++ class ∷ []) ≡ slice_index_or fields class [] ++ names_along fields classes
along_last fields [] class = sym (append-nil (slice_index_or fields class []))
along_last fields (c ∷ cs) class =
    ap (λ names. names ++ slice_index_or fields c []) (along_last fields cs class)
    ∙ append_assoc (slice_index_or fields class []) (names_along fields cs) (slice_index_or fields c [])

-- one class further up
pub one_up : (P : PlainProgram) (n : ℕ) (parent : Option PlainParent) (above : ℕ) → Some above ≡ option_map (λ p. p.class) parent →
    option_map_or (λ p. upwards P n p.class) parent [] ≡ upwards P n above
one_up P n None above is = absurd (cc)
one_up P n (Some p) above is = let same : p.class ≡ above = cc in ap (upwards P n) same

pub none_up : (P : PlainProgram) (n : ℕ) (parent : Option PlainParent) → None ≡ option_map (λ p. p.class) parent → option_map_or (λ p. upwards P n p.class) parent [] ≡ []
none_up P n None is = refl
none_up P n (Some p) is = absurd (cc)
