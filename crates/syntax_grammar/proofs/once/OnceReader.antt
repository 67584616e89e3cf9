-- A reader goes through terminals with as many steps as it is given, and leaves no choice. What derivations say is
-- what it reads, given enough steps: so two derivations say the same. Nothing is said here of what isn't derived.
use Rattle.std.proofs.Common.{◌≡◌, ℕ, zero, suc, ◌+◌, ◌≤◌, ◌⊎◌, inl, inr, List, [], ◌∷◌, Bool, true, false, cond, ◌||◌, Option, Some, None, refl, sym, ap, arith}
use Rattle.lang_base.specs.declared.place.Place.{Place}
use Rattle.syntax_tokens.specs.declared.token.Symbol.{Symbol}
use Rattle.syntax_tokens.specs.declared.terminal.Placed.{Placed}
use Rattle.syntax_tokens.specs.declared.terminal.Terminal.{Terminal}
use Rattle.syntax_tokens.specs.declared.terminal.Terminal.TheVariants as terminal
use Rattle.syntax_tree.specs.declared.region.Named.{Named}
use Rattle.syntax_grammar.specs.Taking.{Takes, NoNext, StandsAt, place_of, Listed, last, more, Many, none, some}

-- a tree and what is left, if something was read
abbrev pub Out : Type 0 → Type 0
Out A = Option (A × List Placed)

abbrev pub into : {A B : Type 0} → Out A → (A → List Placed → Out B) → Out B
into None to = None
into (Some got) to = to got.0 got.1

-- given enough steps, this is read
pub record Comes {A : Type 0} (reads : ℕ → Out A) (tree : A) (rest : List Placed) : Type 0 where
  pub enough : ℕ
  pub there : (m : ℕ) → enough ≤ m → reads m ≡ Some (tree, rest)

pub at_once : {A : Type 0} {out : Out A} {tree : A} {rest : List Placed} → out ≡ Some (tree, rest) → Comes (λ m. out) tree rest
at_once e = record { enough = 0; there = λ m h. e }

pub then_reads : {A B : Type 0} {first : ℕ → Out A} (next : ℕ → A → List Placed → Out B) {a : A} {b : B} {one rest : List Placed} →
    Comes first a one → Comes (λ m. next m a one) b rest → Comes (λ m. into (first m) (next m)) b rest
then_reads next x y = record {
  enough = x.enough + y.enough;
  there = λ m h. rw (x.there m (omega arith)) (y.there m (omega arith));
}

later_there : {A : Type 0} (reads : ℕ → Out A) {tree : A} {rest : List Placed} (c : Comes (λ m. reads (suc m)) tree rest) (m : ℕ) → suc c.enough ≤ m → reads m ≡ Some (tree, rest)
later_there reads c zero h = absurd (omega arith)
later_there reads c (suc m) h = c.there m (omega arith)

pub later : {A : Type 0} (reads : ℕ → Out A) {tree : A} {rest : List Placed} → Comes (λ m. reads (suc m)) tree rest → Comes reads tree rest
later reads c = record { enough = suc c.enough; there = later_there reads c }

pub on : {A : Type 0} {test : Bool} {this : ℕ → Out A} (that : ℕ → Out A) {tree : A} {rest : List Placed} → test ≡ true → Comes this tree rest → Comes (λ m. cond test (this m) (that m)) tree rest
on that e c = rw e c

pub off : {A : Type 0} {test : Bool} (this : ℕ → Out A) {that : ℕ → Out A} {tree : A} {rest : List Placed} → test ≡ false → Comes that tree rest → Comes (λ m. cond test (this m) (that m)) tree rest
off this e c = rw e c

-- two such readings are one
pub come_once : {A : Type 0} {reads : ℕ → Out A} {a b : A} {one two : List Placed} → Comes reads a one → Comes reads b two → a ≡ b
come_once {A} {a = a} {b = b} {one = one} {two = two} x y =
    let p = x.there (x.enough + y.enough) (omega arith) in
    let q = y.there (x.enough + y.enough) (omega arith) in
    let e : (a, one) ≡ (b, two) = cc in
    ap (λ (out : A × List Placed). out.0) e

pub or_left : (a b : Bool) → (a || b) ≡ false → a ≡ false
or_left true b e = cc
or_left false b e = refl

pub or_right : (a b : Bool) → (a || b) ≡ false → b ≡ false
or_right true b e = cc
or_right false b e = e

-- the next terminal is such a one
abbrev pub starts : (Terminal → Bool) → List Placed → Bool
starts test [] = false
starts test (next ∷ after) = test next.terminal

abbrev pub tail : List Placed → List Placed
tail [] = []
tail (next ∷ after) = after

pub starts_taken : {wanted : Terminal} {before after : List Placed} {place : Place} → Takes wanted before after place → (test : Terminal → Bool) → starts test before ≡ test wanted
starts_taken t test = rw t.first

-- where such a terminal comes next, one is taken
pub not_next : {wanted : Terminal} (before : List Placed) (test : Terminal → Bool) → NoNext wanted before → ((t : Terminal) → (t ≡ wanted) ⊎ (test t ≡ false)) → starts test before ≡ false
not_next [] test n decides = refl
not_next {wanted} (next ∷ after) test n decides = elim (decides next.terminal) [
  | inl e ↦ absurd (n (record { after = after; takes = record { place = next.place; takes = record { first = ap (λ (t : Terminal). record { terminal = t; place = next.place } ∷ after) e } } }))
  | inr e ↦ e
]

abbrev pub nowhere : Place
nowhere = record { line = 0; col = 0 }

abbrev pub place_at : List Placed → Place
place_at before = place_of before nowhere

pub stands : (before : List Placed) {place : Place} → (before ≡ [] → ⊥) → StandsAt before place → place_at before ≡ place
stands [] n s = absurd (n refl)
stands (next ∷ after) n s = sym (s.first next after refl)

-- a name
abbrev pub named_at : Terminal → Place → List Placed → Out Named
named_at (terminal.Name n) place after = Some (record { name = n; place = place }, after)
named_at _ place after = None

abbrev pub named : List Placed → Out Named
named [] = None
named (next ∷ after) = named_at next.terminal next.place after

-- { X }
pub many : {A : Type 0} → (List Placed → Bool) → (ℕ → List Placed → Out A) → ℕ → List Placed → Out (List A)
many begins one zero before = None
many begins one (suc m) before =
    cond (begins before) (into (one m before) (λ item following. into (many begins one m following) (λ items left. Some (item ∷ items, left)))) (Some ([], before))

-- what holds where an item begins, and after the last, holds where several begin
pub many_first : {A : Type 0} {Derives : List Placed → List Placed → A → Type 0} (P : List Placed → Type 0) → ((before after : List Placed) (item : A) → Derives before after item → P before) →
    {before after : List Placed} {items : List A} → Many Derives before after items → P after → P before
many_first P first none p = p
many_first P first {before} (some {one = here} {item = item} d ds) p = first before here item d

pub many_read : {A : Type 0} {Derives : List Placed → List Placed → A → Type 0} (goes_on : List Placed → Bool) (begins : List Placed → Bool) (one : ℕ → List Placed → Out A) →
    ((before after : List Placed) (item : A) → Derives before after item → goes_on after ≡ false → Comes (λ m. one m before) item after) →
    ((before after : List Placed) (item : A) → Derives before after item → (begins before ≡ true) × (goes_on before ≡ false)) →
    {before after : List Placed} {items : List A} → Many Derives before after items → begins after ≡ false → goes_on after ≡ false →
    Comes (λ m. many begins one m before) items after
unfolding many
many_read goes_on begins one each first {before} none ends closed = later (λ m. many begins one m before) (off _ ends (at_once refl))
many_read goes_on begins one each first {before} {after} {items} (some {one = here} {item = item} d ds) ends closed =
    later (λ m. many begins one m before) (on _ (first before here item d).0 (then_reads _ (each before here item d (many_first (λ here'. goes_on here' ≡ false) (λ b a i d'. (first b a i d').1) ds closed))
    (then_reads _ (many_read goes_on begins one each first ds ends closed) (at_once refl))))

-- X { "," X }
abbrev pub is_comma : Terminal → Bool
is_comma (terminal.Symbol Symbol.Comma) = true
is_comma _ = false

pub listed : {A : Type 0} → (ℕ → List Placed → Out A) → ℕ → List Placed → Out (List A)
listed one zero before = None
listed one (suc m) before =
    into (one m before) (λ item following. cond (starts is_comma following) (into (listed one m (tail following)) (λ items left. Some (item ∷ items, left))) (Some (item ∷ [], following)))

pub listed_first : {A : Type 0} {Derives : List Placed → List Placed → A → Type 0} (P : List Placed → Type 0) → ((before after : List Placed) (item : A) → Derives before after item → P before) →
    {before after : List Placed} {items : List A} → Listed Derives before after items → P before
listed_first P first {before} {after} (last {item = item} d) = first before after item d
listed_first P first {before} (more {one = here} {item = item} d t ds) = first before here item d

pub listed_read : {A : Type 0} {Derives : List Placed → List Placed → A → Type 0} (goes_on : List Placed → Bool) (one : ℕ → List Placed → Out A) →
    ((before after : List Placed) (item : A) → Derives before after item → goes_on after ≡ false → Comes (λ m. one m before) item after) →
    ((place : Place) (after : List Placed) → goes_on (record { terminal = terminal.Symbol Symbol.Comma; place = place } ∷ after) ≡ false) →
    {before after : List Placed} {items : List A} → Listed Derives before after items → starts is_comma after ≡ false → goes_on after ≡ false →
    Comes (λ m. listed one m before) items after
unfolding listed
listed_read goes_on one each comma {before} {after} (last {item = item} d) ends closed =
    later (λ m. listed one m before) (then_reads _ (each before after item d closed) (off _ ends (at_once refl)))
listed_read goes_on one each comma {before} {after} (more {one = here} {two = two} {item = item} {comma = at} d t ds) ends closed =
    later (λ m. listed one m before) (then_reads _ (each before here item d (rw t.first (comma at two)))
    (rw t.first (then_reads _ (listed_read goes_on one each comma ds ends closed) (at_once refl))))
