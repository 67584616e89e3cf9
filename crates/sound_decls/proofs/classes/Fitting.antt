-- A member that fits the one that it overrides, by the tests, is what the judgement asks for.
use Rattle.std.proofs.Common.{◌≡◌, ◌∙◌, ◌⊎◌, inl, inr, Bool, true, false, not, ◌&&◌, ◌||◌, cond, IsTrue, List, [], ◌∷◌, ◌++◌, map, length, refl, ap, sym}
use Rattle.std.proofs.lemmas.List.{length-map}
use Rattle.std.specs.List.{AllZip}
use Rattle.lang_base.specs.declared.effect.Constraint.{Constraint}
use Rattle.lang_base.specs.declared.effect.Effect.{Effect}
use Rattle.lang_base.specs.declared.refusal.Kind.TheVariants as kind
use Rattle.lang_base.specs.declared.region.Rpl.{Rpl}
use Rattle.lang_base.specs.declared.ty.Ty.{Ty}
use Rattle.lang_base.specs.Effects.{same_bool, has_effect, added, gathered, covers_effect, some_covers, set_covers}
use Rattle.lang_base.specs.Regions.{substituted}
use Rattle.lang_base.specs.Types.{plain_type, type_with, SameType}
use Rattle.decl_headers.specs.declared.header.ParamRow.{ParamRow}
use Rattle.decl_headers.specs.Passes.{fault, fault_if}
use Rattle.region_paths.proofs.Same.{same_rpl-is}
use Rattle.region_types.proofs.Equal.{same_type-is}
use Rattle.lang_typed.specs.Effects.{effect_with}
use Rattle.lang_typed.specs.Table.{constraint_with}
use Rattle.decl_table.specs.declared.rows.MethodRow.{MethodRow}
use Rattle.decl_classes.specs.Overriding.{same_kinds, same_path_with, same_constraints, same_with, same_types, fits, is_covered, override_fault}
use Rattle.sound_lemmas.proofs.Free.{fault_none, not_false, and_split}

same_mark : (a b : Bool) → same_bool a b ≡ true → a ≡ b
same_mark true b e = sym e
same_mark false false e = refl
same_mark false true e = cc

kinds_are : (as_ bs : List ParamRow) → same_kinds as_ bs ≡ true → map (λ param. param.atomic) as_ ≡ map (λ param. param.atomic) bs
kinds_are [] [] e = refl
kinds_are [] (b ∷ bs) e = cc
kinds_are (a ∷ as_) [] e = cc
kinds_are (a ∷ as_) (b ∷ bs) e =
    let w = and_split (same_bool a.atomic b.atomic) (same_kinds as_ bs) e in
    let first = same_mark a.atomic b.atomic w.0 in
    let more = kinds_are as_ bs w.1 in
    cc

constraint_is : (args : List Rpl) (a b : Constraint) → same_path_with args a.left b.left && same_path_with args a.right b.right ≡ true → a ≡ constraint_with args b
constraint_is args a b e =
    let w = and_split (same_path_with args a.left b.left) (same_path_with args a.right b.right) e in
    ap (λ (l : Rpl). record { left = l; right = a.right }) (same_rpl-is a.left (substituted args b.left) w.0)
    ∙ ap (λ (r : Rpl). record { left = substituted args b.left; right = r }) (same_rpl-is a.right (substituted args b.right) w.1)

constraints_are : (args : List Rpl) (as_ bs : List Constraint) → same_constraints args as_ bs ≡ true → as_ ≡ map (constraint_with args) bs
constraints_are args [] [] e = refl
constraints_are args [] (b ∷ bs) e = cc
constraints_are args (a ∷ as_) [] e = cc
constraints_are args (a ∷ as_) (b ∷ bs) e =
    let w = and_split (same_path_with args a.left b.left && same_path_with args a.right b.right) (same_constraints args as_ bs) e in
    ap (λ z. z ∷ as_) (constraint_is args a b w.0) ∙ ap (λ zs. constraint_with args b ∷ zs) (constraints_are args as_ bs w.1)

types_are : (args : List Rpl) (as_ bs : List Ty) → same_types args as_ bs ≡ true → AllZip SameType (map plain_type as_) (map (type_with args) (map plain_type bs))
types_are args [] [] e = tt
types_are args [] (b ∷ bs) e = cc
types_are args (a ∷ as_) [] e = cc
types_are args (a ∷ as_) (b ∷ bs) e =
    let w = and_split (same_with args a b) (same_types args as_ bs) e in
    (same_type-is (plain_type a) (type_with args (plain_type b)) w.0, types_are args as_ bs w.1)

-- what effects cover, each once, they cover
some_last : (es : List Effect) (f g : Effect) → some_covers (es ++ f ∷ []) g ≡ true → (some_covers es g ≡ true) ⊎ (covers_effect f g ≡ true)
some_last [] f g h = by (covers_effect f g) refl h
  where
    by : (b : Bool) → covers_effect f g ≡ b → b || false ≡ true → (some_covers [] g ≡ true) ⊎ (covers_effect f g ≡ true)
    by true is h = inr is
    by false is h = cc
some_last (e ∷ es) f g h = by (covers_effect e g) h (some_last es f g)
  where
    by : (b : Bool) → b || some_covers (es ++ f ∷ []) g ≡ true → (some_covers (es ++ f ∷ []) g ≡ true → (some_covers es g ≡ true) ⊎ (covers_effect f g ≡ true)) → (b || some_covers es g ≡ true) ⊎ (covers_effect f g ≡ true)
    by true h more = inl refl
    by false h more = more h

some_gathered : (es fs : List Effect) (g : Effect) → some_covers (gathered es fs) g ≡ true → (some_covers es g ≡ true) ⊎ (some_covers fs g ≡ true)
some_gathered es [] g h = inl h
some_gathered es (f ∷ fs) g h =
    elim (some_gathered (added es f) fs g h) [
      | inl now ↦ by (has_effect es f) now
      | inr later ↦ inr (or_later (covers_effect f g) later)
    ]
  where
    or_later : (b : Bool) → some_covers fs g ≡ true → b || some_covers fs g ≡ true
    or_later true h = refl
    or_later false h = h

    by : (b : Bool) → some_covers (cond b es (es ++ f ∷ [])) g ≡ true → (some_covers es g ≡ true) ⊎ (some_covers (f ∷ fs) g ≡ true)
    by true now = inl now
    by false now =
        elim (some_last es f g now) [
          | inl old ↦ inl old
          | inr new ↦ inr (ap (λ b. b || some_covers fs g) new)
        ]

set_gathered : (es fs : List Effect) → set_covers (gathered [] es) fs ≡ true → set_covers es fs ≡ true
set_gathered es [] h = refl
set_gathered es (f ∷ fs) h =
    let w = and_split (some_covers (gathered [] es) f) (set_covers (gathered [] es) fs) h in
    elim (some_gathered [] es f w.0) [
      | inl none ↦ cc (none)
      | inr some ↦ ap (λ b. b && set_covers es fs) some ∙ set_gathered es fs w.1
    ]

-- what is known of a member that overrides another without a fault
pub record Fits (args : List Rpl) (row above : MethodRow) : Type 0 where
  pub params : map (λ param. param.atomic) row.regions ≡ map (λ param. param.atomic) above.regions
  pub as_many : length row.regions ≡ length above.regions
  pub given : row.given ≡ map (constraint_with args) above.given
  pub formals : AllZip SameType (map plain_type row.params) (map (type_with args) (map plain_type above.params))
  pub result : SameType (plain_type row.result) (type_with args (plain_type above.result))
  pub covered : IsTrue (set_covers (map (effect_with args) above.summary) row.summary)

fitting : (args : List Rpl) (row above : MethodRow) → fits args row above ≡ true → is_covered args row above ≡ true → Fits args row above
fitting args row above is covered =
    let first = and_split (same_kinds row.regions above.regions && same_constraints args row.given above.given && same_types args row.params above.params) (same_with args row.result above.result) is in
    let second = and_split (same_kinds row.regions above.regions && same_constraints args row.given above.given) (same_types args row.params above.params) first.0 in
    let third = and_split (same_kinds row.regions above.regions) (same_constraints args row.given above.given) second.0 in
    let params = kinds_are row.regions above.regions third.0 in
    record {
      params = params;
      as_many = sym (length-map row.regions (λ (param : ParamRow). param.atomic)) ∙ ap length params ∙ length-map above.regions (λ (param : ParamRow). param.atomic);
      given = constraints_are args row.given above.given third.1;
      formals = types_are args row.params above.params second.1;
      result = same_type-is (plain_type row.result) (type_with args (plain_type above.result)) first.1;
      covered = set_gathered (map (effect_with args) above.summary) row.summary covered;
    }

pub fits_of : (args : List Rpl) (row above : MethodRow) → override_fault args row above ≡ [] → Fits args row above
fits_of args row above free = by (fits args row above) refl free
  where
    by : (b : Bool) → fits args row above ≡ b → cond b (fault_if (not (is_covered args row above)) kind.OverrideEffect row.place) (fault kind.Override row.place ∷ []) ≡ [] → Fits args row above
    by true is h = fitting args row above is (not_false (is_covered args row above) (fault_none (not (is_covered args row above)) kind.OverrideEffect row.place h))
    by false is h = absurd (cc (h))
