-- Accesses of two branches of one fork meet only as the fork lets them: what a task does lies in the effects of each branch above it,
-- or in a local region of its own.
use Rattle.std.proofs.Common.{◌≡◌, ◌≢◌, ◌<◌, ◌⊎◌, inl, inr, ℕ, zero, suc, true, List, [], ◌∷◌, ◌++◌, map, length, refl, sym, ap, ◌∙◌, subst, arith, length-append}
use Rattle.std.proofs.lemmas.Bool.{and_parts, false≢true}
use Rattle.lang_base.specs.declared.elems.Elem.{Elem}
use Rattle.lang_base.specs.declared.elems.Elem.TheVariants.{Name, At, Any, Star, Local}
use Rattle.lang_base.specs.declared.region.Head.{Head}
use Rattle.lang_base.specs.declared.region.Head.TheVariants.{Root, Param}
use Rattle.lang_base.specs.declared.region.Rpl.{Rpl}
use Rattle.lang_base.specs.Matching.{is_plain, all_plain, put_elem, head_region}
use Rattle.lang_base.specs.Regions.{is_local, elem_within}
use Rattle.region_paths.proofs.Inclusion.{Covers, none, one, stop, skip}
use Rattle.lang_typed.specs.Effects.{Own as EffectOwn, does, uses}
use Rattle.runs_theory.specs.Objects.{Path, LocalRegion, Made}
use Rattle.runs_sound.specs.Settings.{Setting, env_of, local_code, local_in, ArePlain}
use Rattle.runs_sound.specs.Accesses.{Access, Includes, LiesIn, InOwnRegion}
use Rattle.runs_sound.specs.Frames.{IsOld}
use Rattle.runs_sound.proofs.scopes.Codes.{code_one, even_code}
use Rattle.runs_sound.proofs.paths.Including.{covers_of, local_within}

-- a region that begins with a local region
abbrev pub begins : LocalRegion → List Elem → List Elem
begins l rest = Local (local_code l).0 (local_code l).1 ∷ rest

same_begin : (l m : LocalRegion) (r q : List Elem) → begins l r ≡ begins m q → l ≡ m
same_begin l m r q e =
    let a : (local_code l).0 ≡ (local_code m).0 = cc in
    let b : (local_code l).1 ≡ (local_code m).1 = cc in
    code_one l m (λ i. (a i, b i))

-- where a name or a number is to stand first
plain_not_local : (a b : ℕ) (y : Elem) → is_plain y ≡ true → elem_within (Local a b) y ≡ true → ⊥
plain_not_local a b (Name n) h w = false≢true w
plain_not_local a b (At i) h w = false≢true w
plain_not_local a b Any h w = false≢true h
plain_not_local a b Star h w = false≢true h
plain_not_local a b (Local c d) h w = false≢true h

plain_first : (y : Elem) (l : LocalRegion) (b r rest : List Elem) → is_plain y ≡ true → r ≡ begins l rest → Covers (y ∷ b) r → ⊥
plain_first y l b r rest h e (one {x = z} w s c) =
    let v : z ≡ Local (local_code l).0 (local_code l).1 = cc in
    plain_not_local (local_code l).0 (local_code l).1 y h (subst (λ t. elem_within t y ≡ true) v w)
plain_first y l b r rest h e (stop c) = false≢true h
plain_first y l b r rest h e (skip n c) = false≢true h

local_is : (made : ℕ → LocalRegion) (a b : ℕ) (q : Path) (k : ℕ) → local_in made a b ≡ local_code (Made q k) → (r : ℕ) × (made r ≡ Made q k)
local_is made a zero q k e = (a, code_one (made a) (Made q k) e)
local_is made a (suc n) q k e = absurd (even_code (Made q k) n (sym (ap (λ z. z.0) e)))

module _ (g : Setting) (plain : ArePlain g.regions) (q : Path) (k : ℕ) where
  abbrev InScopeOf : Type 0
  InScopeOf = (r : ℕ) × (g.made r ≡ Made q k)

  elem_local : (x : Elem) → elem_within (Local (local_code (Made q k)).0 (local_code (Made q k)).1) (put_elem (env_of g) x) ≡ true → InScopeOf
  elem_local (Name n) h = absurd (false≢true h)
  elem_local (At i) h = absurd (false≢true h)
  elem_local Any h = absurd (false≢true h)
  elem_local Star h = absurd (false≢true h)
  elem_local (Local a b) h =
      let z : Local (local_code (Made q k)).0 (local_code (Made q k)).1 ≡ Local (local_in g.made a b).0 (local_in g.made a b).1 =
      local_within (Local (local_code (Made q k)).0 (local_code (Made q k)).1) (Local (local_in g.made a b).0 (local_in g.made a b).1) refl h in
      let c : (local_in g.made a b).0 ≡ (local_code (Made q k)).0 = cc in
      let d : (local_in g.made a b).1 ≡ (local_code (Made q k)).1 = cc in
      local_is g.made a b q k (λ i. (c i, d i))

  covers_local : (xs bs r rest : List Elem) → bs ≡ map (put_elem (env_of g)) xs → r ≡ begins (Made q k) rest → Covers bs r → InScopeOf
  covers_local [] bs r rest b e none = absurd (let z : [] ≡ begins (Made q k) rest = e in cc)
  covers_local (x ∷ xs) bs r rest b e none = absurd (let z : [] ≡ put_elem (env_of g) x ∷ map (put_elem (env_of g)) xs = b in cc)
  covers_local [] bs r rest b e (one w s c) = absurd (cc)
  covers_local (x ∷ xs) bs r rest b e (one {y = y} {x = z} w s c) =
      let u : y ≡ put_elem (env_of g) x = cc in
      let v : z ≡ Local (local_code (Made q k)).0 (local_code (Made q k)).1 = cc in
      elem_local x (subst (λ t. elem_within t (put_elem (env_of g) x) ≡ true) v (subst (λ t. elem_within z t ≡ true) u w))
  covers_local [] bs r rest b e (stop c) = absurd (cc)
  covers_local (x ∷ xs) bs r rest b e (stop {b = bs'} c) = covers_local xs bs' r rest (cc) e c
  covers_local xs bs r rest b e (skip {x = z} l c) =
      let v : z ≡ Local (local_code (Made q k)).0 (local_code (Made q k)).1 = cc in
      absurd (false≢true (sym l ∙ ap is_local v))

  -- only a path that names it includes a region that begins with it
  includes_local : (a : Rpl) (r rest : List Elem) → r ≡ begins (Made q k) rest → Includes (env_of g) a r → InScopeOf
  includes_local a r rest e m = go (head_region (env_of g) a.head) (headed a.head) (covers_of (env_of g) a r m)
    where
      headed : (h : Head) → all_plain (head_region (env_of g) h) ≡ true
      headed Root = refl
      headed (Param p) = plain p

      go : (h : List Elem) → all_plain h ≡ true → Covers (h ++ map (put_elem (env_of g)) a.elems) r → InScopeOf
      go [] hp c = covers_local a.elems _ r rest refl e c
      go (y ∷ h) hp c = absurd (plain_first y (Made q k) (h ++ map (put_elem (env_of g)) a.elems) r rest (and_parts (is_plain y) (all_plain h) hp).0 e c)

  pub lies_local : (E : List EffectOwn) (c : Access) (rest : List Elem) → c.region ≡ begins (Made q k) rest → LiesIn g E c → InScopeOf
  lies_local [] c rest e h = absurd h
  lies_local (does x ∷ E) c rest e h = elim h [ inl s ↦ includes_local x.rpl c.region rest e s.includes | inr t ↦ lies_local E c rest e t ]
  lies_local (uses j x ∷ E) c rest e h = elim h [ inl s ↦ includes_local x.rpl c.region rest e s.0.includes | inr t ↦ lies_local E c rest e t ]

-- two paths through two branches
pub tails_differ : (xs ys z : Path) (u v : ℕ × ℕ) → xs ++ u ∷ z ≡ ys ++ v ∷ z → u ≡ v
tails_differ [] [] z u v e = cc
tails_differ [] (y ∷ ys) z u v e = let n = ap length e in let m = length-append ys (v ∷ z) in absurd (omega (arith, n, m))
tails_differ (x ∷ xs) [] z u v e = let n = ap length e in let m = length-append xs (u ∷ z) in absurd (omega (arith, n, m))
tails_differ (x ∷ xs) (y ∷ ys) z u v e = tails_differ xs ys z u v (let k : xs ++ u ∷ z ≡ ys ++ v ∷ z = cc in k)

-- local regions of two branches differ
pub own_differ : (p : Path) (u v : ℕ × ℕ) (r : List Elem) → u.1 ≢ v.1 → InOwnRegion (u ∷ p) r → InOwnRegion (v ∷ p) r → ⊥
own_differ p u v r ne a b =
    let e = same_begin (Made (a.below ++ u ∷ p) a.count) (Made (b.below ++ v ∷ p) b.count) a.rest b.rest (sym a.is ∙ b.is) in
    let f : a.below ++ u ∷ p ≡ b.below ++ v ∷ p = cc in
    ne (ap (λ z. z.1) (tails_differ a.below b.below p u v f))

-- and no effect of the one speaks of those of the other
pub own_not_spoken : (p : Path) (u : ℕ × ℕ) (m : ℕ) (i : ℕ) (g : Setting) → ArePlain g.regions → ((r : ℕ) → IsOld ((m, i) ∷ p) 0 r (g.made r)) → (E : List EffectOwn) (c : Access) →
    InOwnRegion (u ∷ p) c.region → LiesIn g E c → ⊥
own_not_spoken p u m i g plain old E c o h =
    let z = lies_local g plain (o.below ++ u ∷ p) o.count E c o.rest o.is h in
    go (subst (IsOld ((m, i) ∷ p) 0 z.0) z.1 (old z.0))
  where
    go : ((o.below ++ u ∷ p ≡ (m, i) ∷ p) × (o.count < 0)) ⊎ ((w : ℕ × ℕ) × (below : Path) × ((m, i) ∷ p ≡ below ++ w ∷ (o.below ++ u ∷ p))) → ⊥
    go (inl k) = let l = k.1 in omega (arith, l)
    go (inr k) =
        let n = ap length k.2 in
        let a = length-append k.1 (k.0 ∷ (o.below ++ u ∷ p)) in
        let b = length-append o.below (u ∷ p) in
        omega (arith, n, a, b)
