-- What the code reads of a program and a scope is what the definitions read.
use Rattle.std.proofs.Common.{◌≡◌, ◌∙◌, ℕ, zero, suc, ◌+◌, ◌-◌, ◌<◌, arith, Bool, true, false, cond, if◌then◌else◌, ◌==◌, List, [], ◌∷◌, ◌++◌, length, map, fold, Option, Some, None, refl, ap, sym, append_assoc, ◌⊎◌, inl, inr, slice_get}
use Rattle.std.specs.Option.{option_map}
use Rattle.std.proofs.lemmas.Option.{slice_get-map}
use Rattle.std.proofs.lemmas.List.{map-append, append-nil, length-map}
use Rattle.lang_base.specs.declared.effect.Effect.{Effect}
use Rattle.lang_base.specs.declared.region.Head.TheVariants.{Param}
use Rattle.lang_base.specs.declared.region.Rpl.{Rpl}
use Rattle.lang_base.specs.Regions.{substituted}
use Rattle.lang_typed.specs.Plain.{PlainProgram, PlainParent}
use Rattle.lang_typed.specs.Scope.{Scope, Local, parent_of}
use Rattle.lang_typed.specs.Table.{params_from}
use Rattle.body_infer.specs.declared.kept.Kept.{Kept}
use Rattle.body_infer.specs.declared.scope.Known.{Known}
use Rattle.body_infer.specs.declared.scope.Placed.{Placed}
use Rattle.body_infer.specs.Doing.{seen_by, seen_within, part_of_local}
use Rattle.body_infer.specs.Kept.{summary_kept}
use Rattle.body_infer.specs.Walked.{parent_below, local_of, with_placed, nowhere, scope_of, last_of, is_constant, part_path, known_of, SameUse}

pub ruleset reading = (slice_get-map)

pub seen_there : {A B : Type 0} (f : A → B) (xs : List A) (i : ℕ) (x : A) → Some x ≡ slice_get xs i → slice_get (map f xs) i ≡ Some (f x)
seen_there f xs i x e = slice_get-map f xs i ∙ ap (option_map f) (sym e)

-- how many region parameters there are
pub ruleset counting = (length-map)

-- one list of effects after another
pub ruleset joined = (map-append, append_assoc, append-nil)

chosen : (b : Bool) (l : Option Local) (q : Known) (k : Option Known) → l ≡ option_map local_of k → cond b (Some (local_of q)) l ≡ option_map local_of (if b then Some q else k)
chosen true l q k e = refl
chosen false l q k e = e

found_from : (L : Scope) (x : ℕ) (k : Option Known) (ps : List Placed) → L.local x ≡ option_map local_of k → (fold with_placed L ps).local x ≡ option_map local_of (last_of x k ps)
found_from L x k [] e = e
found_from L x k (p ∷ ps) e = found_from (with_placed L p) x (if x == p.slot then Some p.known else k) ps (chosen (x == p.slot) (L.local x) p.known k e)

pub found_local : (x : ℕ) (ps : List Placed) → (scope_of ps).local x ≡ option_map local_of (last_of x None ps)
found_local x ps = found_from nowhere x None ps refl

-- one region parameter more
pub params_more : (first count at : ℕ) (all new : List Rpl) → at < count → new ≡ all ++ (record { head = Param (first + at); elems = [] }) ∷ [] →
    new ++ params_from (first + (at + 1)) (count - (at + 1)) ≡ all ++ params_from (first + at) (count - at)
params_more first count at all new h e =
    let left : count - at ≡ suc (count - (at + 1)) = omega arith in
    let next : first + (at + 1) ≡ suc (first + at) = omega arith in
    ap (λ l. l ++ params_from (first + (at + 1)) (count - (at + 1))) e
    ∙ append_assoc all (record { head = Param (first + at); elems = [] } ∷ []) (params_from (first + (at + 1)) (count - (at + 1)))
    ∙ ap (λ f. all ++ (record { head = Param (first + at); elems = [] }) ∷ params_from f (count - (at + 1))) next
    ∙ ap (λ n. all ++ params_from (first + at) n) (sym left)

-- one class further up, and no class further up
pub seen_further : (P : PlainProgram) (n m c d : ℕ) (args : List Rpl) (p : PlainParent) → n ≡ suc m → Some p ≡ parent_below P c d →
    seen_within m P p.class (map (substituted args) p.args) d ≡ seen_within n P c args d
seen_further P n m c d args p e h = rw e (further (c == d) h)
  where
    further : (b : Bool) → Some p ≡ (if b then None else parent_of P c) → seen_within m P p.class (map (substituted args) p.args) d ≡ (if b then args else seen_by (λ q owned. seen_within m P q owned d) args (parent_of P c))
    further true h = cc
    further false h = ap (seen_by (λ q owned. seen_within m P q owned d) args) h

pub seen_here : (P : PlainProgram) (n c d : ℕ) (args : List Rpl) → None ≡ parent_below P c d → seen_within n P c args d ≡ args
seen_here P zero c d args h = refl
seen_here P (suc n) c d args h = here (c == d) h
  where
    here : (b : Bool) → None ≡ (if b then None else parent_of P c) → (if b then args else seen_by (λ q owned. seen_within n P q owned d) args (parent_of P c)) ≡ args
    here true h = refl
    here false h = ap (seen_by (λ q owned. seen_within n P q owned d) args) (sym h)

pub ruleset seen = (seen_further, seen_here)

pub nothing_left : (ks : List Kept) (es : List Effect) → (length es ≡ 0) ⊎ (length ks ≡ 0) → summary_kept ks es ≡ []
nothing_left [] [] h = refl
nothing_left [] (e ∷ es) h = refl
nothing_left (k ∷ ks) [] h = refl
nothing_left (k ∷ ks) (e ∷ es) (inl h) = absurd (omega arith)
nothing_left (k ∷ ks) (e ∷ es) (inr h) = absurd (omega arith)

part_kept : (o : Option Known) → part_of_local (option_map local_of o) ≡ local_of (known_of o)
part_kept None = refl
part_kept (Some k) = refl

use_of : (l k : Local) → k ≡ l → SameUse (Some l) (Some k)
use_of l k e = record { constant = ap (λ x. is_constant (Some x)) (sym e); path = ap (λ x. part_path (Some x)) (sym e) }

-- the part that is cut into parts once more
pub part_use : (x : ℕ) (ps : List Placed) (kept : Known) → kept ≡ known_of (last_of x None ps) → SameUse (Some (local_of kept)) (Some (part_of_local ((scope_of ps).local x)))
part_use x ps kept e = use_of (local_of kept) (part_of_local ((scope_of ps).local x)) (ap part_of_local (found_local x ps) ∙ part_kept (last_of x None ps) ∙ ap local_of (sym e))
