-- The operands of an expression, put on the agenda from the last on.
use Rattle.std.proofs.Common.{◌≡◌, ◌∙◌, ℕ, suc, ◌+◌, ◌-◌, ◌<◌, ◌≤◌, List, ◌∷◌, map, length, drop, drop-cons, get_or, sym, ap, arith}
use Rattle.lang_typed.specs.declared.expr.Expr.{Expr}
use Rattle.lang_typed.specs.Plain.{plain_expr, exprs_of}
use Rattle.exec_frames.proofs.Dropped.{drop_all}
use Rattle.exec_walker.specs.Agenda.{Item, evaluate}
use Rattle.exec_walker.specs.Walk.{each}

-- one more item, from the end
one_up : {A : Type 0} (xs : List A) (k : ℕ) (d : A) → k < length xs
    → drop (length xs - (k + 1)) xs ≡ get_or xs (length xs - 1 - k) d ∷ drop (length xs - k) xs
one_up xs k d h =
    let i : length xs - (k + 1) ≡ length xs - 1 - k = omega arith in
    let j : suc (length xs - 1 - k) ≡ length xs - k = omega arith in
    let l : length xs - 1 - k < length xs = omega arith in
    ap (λ n. drop n xs) i ∙ drop-cons xs (length xs - 1 - k) d l ∙ ap (λ n. get_or xs (length xs - 1 - k) d ∷ drop n xs) j

-- the last so many of them
abbrev pub last_of : ℕ → List Expr → List Item → List Item
last_of k all is = each (exprs_of (map plain_expr (drop (length all - k) all))) is

pub none_yet : (all : List Expr) (is : List Item) → is ≡ last_of 0 all is
none_yet all is = ap (λ es. each (exprs_of (map plain_expr es)) is) (sym (drop_all (length all - 0) all (omega arith)))

pub one_more : (k : ℕ) (all : List Expr) (is : List Item) (d : Expr) → k < length all
    → evaluate (plain_expr (get_or all (length all - 1 - k) d)) ∷ last_of k all is ≡ last_of (k + 1) all is
one_more k all is d h = ap (λ es. each (exprs_of (map plain_expr es)) is) (sym (one_up all k d h))

pub all_of : (k : ℕ) (all : List Expr) (is : List Item) → length all ≤ k → last_of k all is ≡ each (exprs_of (map plain_expr all)) is
all_of k all is h = let z : length all - k ≡ 0 = omega arith in ap (λ n. each (exprs_of (map plain_expr (drop n all))) is) z
