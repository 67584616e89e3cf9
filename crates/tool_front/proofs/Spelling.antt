-- The names of one class more.
use Rattle.std.proofs.Common.{◌≡◌, ◌∙◌, ◌+◌, ◌<◌, ℕ, List, [], ◌∷◌, ◌++◌, ap, sym, append_assoc, drop, get_or, length, map}
use Rattle.std.proofs.lemmas.List.{drop_more}

pub mapped_more : {X Y : Type 0} (f : X → Y) (all : List X) (i : ℕ) (x : X) (y : Y) (before out whole : List Y) → i < length all → x ≡ get_or all i x → y ≡ f x
    → out ≡ before ++ y ∷ [] → before ++ map f (drop i all) ≡ whole → out ++ map f (drop (i + 1) all) ≡ whole
mapped_more f all i x y before out whole below is made put so_far =
    let rest = map f (drop (i + 1) all) in
    ap (λ text. text ++ rest) put
    ∙ append_assoc before (y ∷ []) rest
    ∙ ap (λ z. before ++ z ∷ rest) (made ∙ ap f is)
    ∙ ap (λ z. before ++ map f z) (sym (drop_more all i x below))
    ∙ so_far
