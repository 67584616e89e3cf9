-- The lines of summaries, piece by piece.
use Rattle.std.proofs.Common.{◌≡◌, ◌∙◌, ◌-◌, ◌≤◌, ℕ, List, [], ◌∷◌, ◌++◌, map, codes, refl, sym, ◌⊎◌, inl, inr, length, arith}
use Rattle.std.specs.List.{flat_map}
use Rattle.std.specs.Prelude.{slice_index_or}
use Rattle.std.proofs.lemmas.List.{get_or_past, length-append, length-map}
use Rattle.lang_typed.specs.declared.program.RegionParam.{RegionParam}
use Rattle.lang_typed.specs.declared.program.Member.{Member}
use Rattle.lang_typed.specs.Names.{ProgramNames, named_member}
use Rattle.lang_typed.specs.Plain.{plain_member}
use Rattle.body_infer.specs.declared.kept.Kept.{Kept}
use Rattle.body_infer.specs.Kept.{members_kept}
use Rattle.body_infer.specs.Lines.{all_params, listed, lines_from}

-- texts after the first
listed_more : (texts : List (List ℕ)) → flat_map (λ more. codes ", " ++ more) texts ≡ listed (codes ", ") texts
listed_more [] = refl
listed_more (text ∷ texts) = refl

-- no line is left
pub no_lines : (names : ProgramNames) (kept : List (List Kept)) (members : List Member) → (length members ≡ 0) ⊎ (length kept ≡ 0)
    → lines_from names (members_kept kept (map plain_member members)) (map named_member members) ≡ []
no_lines names [] members h = refl
no_lines names (ks ∷ kept) [] h = refl
no_lines names (ks ∷ kept) (m ∷ members) (inl h) = absurd (omega arith)
no_lines names (ks ∷ kept) (m ∷ members) (inr h) = absurd (omega arith)

-- a number after all region parameters has no name
pub no_param : (given own : List RegionParam) (n : ℕ) (d : List ℕ) → length given ≤ n → length own ≤ n - length given → d ≡ slice_index_or (all_params given own) n d
no_param given own n d past over =
    let whole = length-append (map (λ param. param.text) given) (map (λ param. param.text) own) in
    let first = length-map given (λ param. param.text) in
    let last = length-map own (λ param. param.text) in
    sym (get_or_past (all_params given own) n d (omega (arith, past, over, whole, first, last)))
