-- The region names of classes, some more of them.
use Rattle.std.proofs.Common.{◌≡◌, ℕ, suc, ◌+◌, ◌<◌, List, ◌∷◌, ◌++◌, length, get_or, drop, drop-cons, sym, ap, ◌∙◌, append_assoc, arith}
use Rattle.std.specs.List.{flat_map}
use Rattle.syntax_tree.specs.declared.class.Class.{Class}
use Rattle.decl_headers.specs.declared.header.RegionRow.{RegionRow}
use Rattle.decl_headers.specs.Gathered.{member_regions, all_regions}
use Rattle.decl_headers.specs.Numbers.{as_number}

-- those of a class that is there
pub regions_more : (classes : List Class) (i number : ℕ) (class : Class) (rows new : List RegionRow) → i < length classes → class ≡ get_or classes i class → number ≡ as_number i
    → new ≡ rows ++ flat_map (member_regions number) class.members → rows ++ all_regions i (drop i classes) ≡ all_regions 0 classes → new ++ all_regions (i + 1) (drop (i + 1) classes) ≡ all_regions 0 classes
regions_more classes i number class rows new below item is step h =
    let rest = all_regions (i + 1) (drop (i + 1) classes) in
    let cut : drop i classes ≡ class ∷ drop (i + 1) classes =
    drop-cons classes i class below ∙ ap (λ c. c ∷ drop (suc i) classes) (sym item) ∙ ap (λ n. class ∷ drop n classes) (let e : suc i ≡ i + 1 = omega arith in e) in
    ap (λ all. all ++ rest) (step ∙ ap (λ n. rows ++ flat_map (member_regions n) class.members) is)
    ∙ append_assoc rows (flat_map (member_regions (as_number i)) class.members) rest
    ∙ ap (λ cs. rows ++ all_regions i cs) (sym cut)
    ∙ h
