-- Lists of faults of which the same one is reported.
use Rattle.std.proofs.Common.{◌≡◌, List, ◌++◌, refl, sym, ap, ◌∙◌}
use Rattle.lang_base.specs.declared.refusal.Refusal.{Refusal}
use Rattle.decl_headers.specs.declared.faults.Faults.{Faults}
use Rattle.decl_headers.specs.Faults.{all_noted}
use Rattle.decl_headers.proofs.Noting.{noted_append}
use Rattle.decl_headers.proofs.Order.{all_swap}

pub record Same (xs : List Refusal) (ys : List Refusal) : Type 0 where
  pub noted : (faults : Faults) → all_noted faults xs ≡ all_noted faults ys

pub same_list : (xs ys : List Refusal) → xs ≡ ys → Same xs ys
same_list xs ys e = record { noted = λ faults. ap (all_noted faults) e }

pub same_then : (xs ys zs : List Refusal) → Same xs ys → Same ys zs → Same xs zs
same_then xs ys zs h k = record { noted = λ faults. h.noted faults ∙ k.noted faults }

pub same_append : (xs ys more rest : List Refusal) → Same xs ys → Same more rest → Same (xs ++ more) (ys ++ rest)
same_append xs ys more rest h k = record {
  noted = λ faults. noted_append faults xs more ∙ ap (λ f. all_noted f more) (h.noted faults) ∙ k.noted (all_noted faults ys) ∙ sym (noted_append faults ys rest);
}

pub same_after : (xs more rest : List Refusal) → Same more rest → Same (xs ++ more) (xs ++ rest)
same_after xs more rest k = same_append xs xs more rest (same_list xs xs refl) k

-- the first list moves after the second
pub same_moved : (xs ys rest : List Refusal) → Same (xs ++ (ys ++ rest)) (ys ++ (xs ++ rest))
same_moved xs ys rest = record {
  noted = λ faults. noted_append faults xs (ys ++ rest) ∙ noted_append (all_noted faults xs) ys rest
      ∙ ap (λ f. all_noted f rest) (all_swap faults xs ys)
      ∙ sym (noted_append (all_noted faults ys) xs rest) ∙ sym (noted_append faults ys (xs ++ rest));
}

-- the first list moves after two, three and four others
pub same_moved_two : (xs a b rest : List Refusal) → Same (xs ++ (a ++ (b ++ rest))) (a ++ (b ++ (xs ++ rest)))
same_moved_two xs a b rest = same_then _ _ _ (same_moved xs a (b ++ rest)) (same_after a (xs ++ (b ++ rest)) (b ++ (xs ++ rest)) (same_moved xs b rest))

pub same_moved_three : (xs a b c rest : List Refusal) → Same (xs ++ (a ++ (b ++ (c ++ rest)))) (a ++ (b ++ (c ++ (xs ++ rest))))
same_moved_three xs a b c rest =
    same_then _ _ _ (same_moved xs a (b ++ (c ++ rest))) (same_after a (xs ++ (b ++ (c ++ rest))) (b ++ (c ++ (xs ++ rest))) (same_moved_two xs b c rest))

pub same_moved_four : (xs a b c d rest : List Refusal) → Same (xs ++ (a ++ (b ++ (c ++ (d ++ rest))))) (a ++ (b ++ (c ++ (d ++ (xs ++ rest)))))
same_moved_four xs a b c d rest =
    same_then _ _ _ (same_moved xs a (b ++ (c ++ (d ++ rest)))) (same_after a (xs ++ (b ++ (c ++ (d ++ rest)))) (b ++ (c ++ (d ++ (xs ++ rest)))) (same_moved_three xs b c d rest))
