-- A whole segment has the events of its run; and what it prints.
use Rattle.std.proofs.Common.{◌≡◌, ◌<◌, ◌⊎◌, inl, inr, ⊎_elim, ℕ, suc, ◌+◌, List, [], ◌∷◌, ◌++◌, length, refl, sym, ap, ap₂, ◌∙◌, subst, arith, append_assoc, append-nil, Option, Some, None}
use Rattle.std.proofs.lemmas.Bool.{cases_eq, cases_lt}
use Rattle.lang_base.specs.declared.place.Place.{Place}
use Rattle.lang_base.specs.declared.value.Trap.{Trap}
use Rattle.runs_theory.specs.Actions.{Action, Begin, Do, End, Ending, Fork, Join, Program, Task}
use Rattle.runs_theory.specs.Meaning.{Disciplined}
use Rattle.runs_theory.specs.Objects.{Path}
use Rattle.runs_theory.specs.Order.{printed, printed_by, trap_in, trapped}
use Rattle.runs_theory.specs.Runs.{Begun, Event, Faithful, Run, Upto, branch, count, mine, now, root}
use Rattle.runs_theory.proofs.order.Between.{stands_in}
use Rattle.runs_theory.proofs.events.Carry.{begun_at}
use Rattle.runs_theory.proofs.events.Mine.{found, mine_at, mine_nil, mine_other, mine_same}
use Rattle.runs_theory.proofs.events.Numbers.{same_begin}
use Rattle.runs_theory.proofs.events.Upto.{upto_length, upto_next, upto_none, upto_same, upto_split}
use Rattle.runs_simulation.proofs.tied.Segments.{Seg, seg_none, seg_own, seg_begin, seg_below, seg_mine, mine_on, mine_none, tails_same, longer, only_begun}

pair_is : (u : ℕ × ℕ) (n b : ℕ) → u.0 ≡ n → u.1 ≡ b → u ≡ (n, b)
pair_is u n b e f = λ z. (e z, f z)

-- the last step of a path
last_of : (zs : Path) → (zs ≡ []) ⊎ ((ys : Path) × (u : ℕ × ℕ) × (zs ≡ ys ++ u ∷ []))
last_of [] = inl refl
last_of (z ∷ zs) = inr (go (last_of zs))
  where
    go : (zs ≡ []) ⊎ ((ys : Path) × (u : ℕ × ℕ) × (zs ≡ ys ++ u ∷ [])) → (ys : Path) × (u : ℕ × ℕ) × (z ∷ zs ≡ ys ++ u ∷ [])
    go (inl e) = ([], z, ap (λ l. z ∷ l) e)
    go (inr e) = (z ∷ e.0, e.1, ap (λ l. z ∷ l) e.2)

-- a branch that these events of its parent begin
abbrev NotBegun : Run → ℕ × ℕ → Type 0
NotBegun es u = (g : Event) (hs : Run) → Upto (g ∷ hs) es → g.act ≡ Begin u.1 → length hs ≡ suc (u.0 + u.1) → ⊥

abbrev EventsAt : Run → Path → Run → Run → Path → ℕ × ℕ → Type 0
EventsAt R p es S ys u = (mine S (ys ++ u ∷ p) ≡ mine R (ys ++ u ∷ p)) ⊎ ((mine S (ys ++ u ∷ p) ≡ []) × NotBegun es u)

module _ (P : Program) (D : Disciplined P) (R : Run) (faithful : Faithful P R) where
  -- an end is the last event of its task
  ends_all : (q : Path) (x : Event) (es : Run) (z : Ending) → x.act ≡ End z → Upto (x ∷ es) (mine R q) → x ∷ es ≡ mine R q
  ends_all q x es z act u = ⊎_elim more (λ l. upto_same u (let a = upto_length u in omega (arith, a, l))) (cases_lt (length (x ∷ es)) (length (mine R q)))
    where
      more : length (x ∷ es) < length (mine R q) → x ∷ es ≡ mine R q
      more l =
          let y = upto_next u l in
          let f = found R q u in
          let g = found R q y.1 in
          let B : Run = x ∷ f.before in
          let mine_b : mine B q ≡ x ∷ es = mine_same x f.before q f.path ∙ ap (λ l. x ∷ l) f.mine_is in
          let inside = stands_in P D q faithful f.stands (record { before = f.before; event = x; stands = now; path = f.path; act = act }) g.stands g.path in
          let up = upto_length (mine_at q inside g.path) in
          let many = ap length g.mine_is in
          let many_b = ap length mine_b in
          absurd (omega (arith, up, many, many_b))

  -- a task has begun below which one has made an event
  below_begun : (ys : Path) (u : ℕ × ℕ) (p : Path) (t : Task) → Begun P R (ys ++ u ∷ p) t → (s : Task) × Begun P R (u ∷ p) s
  below_begun [] u p t b = (t, b)
  below_begun (v ∷ ys) u p t (root a b) = absurd (let z : v ∷ (ys ++ u ∷ p) ≡ [] = a in cc)
  below_begun (v ∷ ys) u p t (branch q w F f ts B g a b c d e s h i j m) =
      let same : ys ++ u ∷ p ≡ q = (let z : v ∷ (ys ++ u ∷ p) ≡ w ∷ q = a in cc) in
      let r = begun_at P q faithful b c in
      below_begun ys u p r.0 (subst (λ x. Begun P R x r.0) (sym same) r.1)

  none_begun : (p ys : Path) (u : ℕ × ℕ) (es : Run) → es ≡ mine R p → NotBegun es u → mine R (ys ++ u ∷ p) ≡ []
  none_begun p ys u es whole none = mine_none R (ys ++ u ∷ p) at
    where
      begins : (t : Task) → Begun P R (u ∷ p) t → ⊥
      begins t (root a b) = (let z : u ∷ p ≡ [] = a in cc)
      begins t (branch q w F f ts B g a b c d e s h i j m) =
          let z : u ∷ p ≡ w ∷ q = a in
          let us : u ≡ w = cc in
          let ps : p ≡ q = cc in
          none g (mine B p) (subst (λ l. Upto (g ∷ mine B p) l) (sym whole) (mine_at p h (i ∙ sym ps))) (j ∙ ap (λ (v : ℕ × ℕ). Begin v.1) (sym us))
          (ap (λ x. count B x) ps ∙ m ∙ ap (λ (v : ℕ × ℕ). suc (v.0 + v.1)) (sym us))

      at : (x : Event) (X : Run) → Upto (x ∷ X) R → x.path ≡ ys ++ u ∷ p → ⊥
      at x X up e = (let r = begun_at P (ys ++ u ∷ p) faithful up e in let b = below_begun ys u p r.0 r.1 in begins b.0 b.1)

  -- a whole segment
  whole_at : (p : Path) (es S : Run) → Seg R p es S → es ≡ mine R p → ((ys : Path) (u : ℕ × ℕ) → EventsAt R p es S ys u) → (zs : Path) → mine S (zs ++ p) ≡ mine R (zs ++ p)
  whole_at p es S h whole each zs = go (last_of zs)
    where
      at_end : (ys : Path) (u : ℕ × ℕ) → EventsAt R p es S ys u → mine S (ys ++ u ∷ p) ≡ mine R (ys ++ u ∷ p)
      at_end ys u (inl e) = e
      at_end ys u (inr e) = e.0 ∙ sym (none_begun p ys u es whole e.1)

      go : (zs ≡ []) ⊎ ((ys : Path) × (u : ℕ × ℕ) × (zs ≡ ys ++ u ∷ [])) → mine S (zs ++ p) ≡ mine R (zs ++ p)
      go (inl e) = subst (λ l. mine S (l ++ p) ≡ mine R (l ++ p)) (sym e) (seg_mine h ∙ whole)
      go (inr e) =
          let q : zs ++ p ≡ e.0 ++ e.1 ∷ p = ap (λ l. l ++ p) e.2 ∙ append_assoc e.0 (e.1 ∷ []) p in
          subst (λ l. mine S l ≡ mine R l) (sym q) (at_end e.0 e.1 (each e.0 e.1))

  at_own : (p : Path) (es S : Run) (e : Event) → e.path ≡ p → ((b : ℕ) → e.act ≡ Begin b → ⊥) → (ys : Path) (u : ℕ × ℕ) → EventsAt R p es S ys u
      → EventsAt R p (e ∷ es) (e ∷ S) ys u
  at_own p es S e a b ys u (inl m) = inl (mine_other e S (ys ++ u ∷ p) (λ f. longer ys u p (sym f ∙ a)) ∙ m)
  at_own p es S e a b ys u (inr m) = inr (
    mine_other e S (ys ++ u ∷ p) (λ f. longer ys u p (sym f ∙ a)) ∙ m.0,
    λ g hs up act len. ⊎_elim (λ k. b u.1 (ap (λ (z : Event). z.act) (sym k.0) ∙ act)) (λ k. m.1 g hs k act len) (upto_split up),
  )

  at_begin : {p : Path} {es S es' U : Run} (g : Event) (n b : ℕ) → g.path ≡ p → g.act ≡ Begin b → length es ≡ suc (n + b) → Seg R ((n, b) ∷ p) es' U → Seg R p es S
      → ((zs : Path) → mine U (zs ++ (n, b) ∷ p) ≡ mine R (zs ++ (n, b) ∷ p)) → (ys : Path) (u : ℕ × ℕ) → EventsAt R p es S ys u → EventsAt R p (g ∷ es) (U ++ g ∷ S) ys u
  at_begin {p} {es} {S} {es'} {U} g n b a c d h k inner ys u outer = ⊎_elim (λ e. ⊎_elim (λ f. itself (pair_is u n b e f)) (λ f. other (λ s. f (ap (λ (v : ℕ × ℕ). v.1) s)))
      (cases_eq u.1 b)) (λ e. other (λ s. e (ap (λ (v : ℕ × ℕ). v.0) s))) (cases_eq u.0 n)
    where
      itself : u ≡ (n, b) → EventsAt R p (g ∷ es) (U ++ g ∷ S) ys u
      itself s = inl (subst (λ v. mine (U ++ g ∷ S) (ys ++ v ∷ p) ≡ mine R (ys ++ v ∷ p)) (sym s)
          (mine_on U (g ∷ S) (ys ++ (n, b) ∷ p)
          ∙ ap (λ l. mine U (ys ++ (n, b) ∷ p) ++ l) (mine_other g S (ys ++ (n, b) ∷ p) (λ e. longer ys (n, b) p (sym e ∙ a)) ∙ only_begun k ys (n, b) (omega (arith, d)))
          ∙ append-nil (mine U (ys ++ (n, b) ∷ p)) ∙ inner ys))

      other : (u ≡ (n, b) → ⊥) → EventsAt R p (g ∷ es) (U ++ g ∷ S) ys u
      other apart = at outer
        where
          same : mine (U ++ g ∷ S) (ys ++ u ∷ p) ≡ mine S (ys ++ u ∷ p)
          same = mine_on U (g ∷ S) (ys ++ u ∷ p)
              ∙ ap (λ l. l ++ mine (g ∷ S) (ys ++ u ∷ p)) (mine_none U (ys ++ u ∷ p) (λ x X up e. (let r = seg_below h x X up in apart (tails_same ys r.0 u (n, b) p (sym e ∙ r.1)))))
              ∙ mine_other g S (ys ++ u ∷ p) (λ e. longer ys u p (sym e ∙ a))

          at : EventsAt R p es S ys u → EventsAt R p (g ∷ es) (U ++ g ∷ S) ys u
          at (inl m) = inl (same ∙ m)
          at (inr m) = inr (
            same ∙ m.0,
            λ f hs up act len. ⊎_elim
                (λ i. (let bs : b ≡ u.1 = same_begin b u.1 (sym c ∙ ap (λ (z : Event). z.act) (sym i.0) ∙ act) in
                let ls : length hs ≡ length es = ap length i.1 in apart (pair_is u n b (omega (arith, bs, ls, d, len)) (sym bs)))) (λ i. m.1 f hs i act len) (upto_split up),
          )

  seg_events : {p : Path} {es S : Run} → Seg R p es S → (ys : Path) (u : ℕ × ℕ) → EventsAt R p es S ys u
  seg_events {p} seg_none ys u = inr (mine_nil (ys ++ u ∷ p), λ g hs up act len. upto_none up)
  seg_events {p} (seg_own {es = es} {S = S} e a b h) ys u = at_own p es S e a b ys u (seg_events h ys u)
  seg_events {p} (seg_begin {es' = es'} {U = U} g n b x z a c d f w h k) ys u =
      at_begin g n b a c d h k (whole_at ((n, b) ∷ p) (x ∷ es') U h (ends_all ((n, b) ∷ p) x es' z f w) (λ zs v. seg_events h zs v)) ys u (seg_events k ys u)

  pub seg_whole : {S : Run} → Seg R [] (mine R []) S → (q : Path) → mine R q ≡ mine S q
  seg_whole {S} h q = sym (subst (λ l. mine S l ≡ mine R l) (append-nil q) (whole_at [] (mine R []) S h refl (λ ys u. seg_events h ys u) q))

-- what is printed, one run after another
abbrev pub unless_fell : Option (Trap × Place) → List ℕ → List ℕ
unless_fell None out = out
unless_fell (Some fell) out = []

abbrev pub or_fell : Option (Trap × Place) → Option (Trap × Place) → Option (Trap × Place)
or_fell None other = other
or_fell (Some fell) other = Some fell

pub printed_step : (e : Event) (R : Run) → printed (e ∷ R) ≡ printed R ++ printed_by e.act (trapped R)
unfolding printed
printed_step e R = refl

pub trapped_step : (e : Event) (R : Run) → trapped (e ∷ R) ≡ trap_in e.act (trapped R)
unfolding trapped
trapped_step e R = refl

pub printed_nil : printed [] ≡ []
unfolding printed
printed_nil = refl

pub trapped_nil : trapped [] ≡ None
unfolding trapped
trapped_nil = refl

trap_or : (a : Action) (o r : Option (Trap × Place)) → trap_in a (or_fell o r) ≡ or_fell o (trap_in a r)
trap_or (Do q) None r = refl
trap_or (Do q) (Some f) r = refl
trap_or (Fork ts) None r = refl
trap_or (Fork ts) (Some f) r = refl
trap_or (Begin b) None r = refl
trap_or (Begin b) (Some f) r = refl
trap_or Join None r = refl
trap_or Join (Some f) r = refl
trap_or (End x) None r = refl
trap_or (End x) (Some f) r = refl

printed_or : (a : Action) (o r : Option (Trap × Place)) → printed_by a (or_fell o r) ≡ unless_fell o (printed_by a r)
printed_or (Do q) None r = refl
printed_or (Do q) (Some f) r = refl
printed_or (Fork ts) None r = refl
printed_or (Fork ts) (Some f) r = refl
printed_or (Begin b) None r = refl
printed_or (Begin b) (Some f) r = refl
printed_or Join None r = refl
printed_or Join (Some f) r = refl
printed_or (End x) None r = refl
printed_or (End x) (Some f) r = refl

unless_on : (o : Option (Trap × Place)) (xs ys : List ℕ) → unless_fell o (xs ++ ys) ≡ unless_fell o xs ++ unless_fell o ys
unless_on None xs ys = refl
unless_on (Some f) xs ys = refl

or_none : (o : Option (Trap × Place)) → or_fell o None ≡ o
or_none None = refl
or_none (Some f) = refl

unless_none : (o : Option (Trap × Place)) → unless_fell o [] ≡ []
unless_none None = refl
unless_none (Some f) = refl

pub trapped_on : (U S : Run) → trapped (U ++ S) ≡ or_fell (trapped S) (trapped U)
trapped_on [] S = sym (ap (λ o. or_fell (trapped S) o) trapped_nil ∙ or_none (trapped S))
trapped_on (e ∷ U) S =
    trapped_step e (U ++ S) ∙ ap (λ o. trap_in e.act o) (trapped_on U S) ∙ trap_or e.act (trapped S) (trapped U)
    ∙ ap (λ o. or_fell (trapped S) o) (sym (trapped_step e U))

pub printed_on : (U S : Run) → printed (U ++ S) ≡ printed S ++ unless_fell (trapped S) (printed U)
printed_on [] S = sym (ap (λ l. printed S ++ unless_fell (trapped S) l) printed_nil ∙ ap (λ l. printed S ++ l) (unless_none (trapped S)) ∙ append-nil (printed S))
printed_on (e ∷ U) S =
    printed_step e (U ++ S) ∙ ap₂ (λ l o. l ++ printed_by e.act o) (printed_on U S) (trapped_on U S)
    ∙ ap (λ l. (printed S ++ unless_fell (trapped S) (printed U)) ++ l) (printed_or e.act (trapped S) (trapped U))
    ∙ append_assoc (printed S) (unless_fell (trapped S) (printed U)) (unless_fell (trapped S) (printed_by e.act (trapped U)))
    ∙ ap (λ l. printed S ++ l) (sym (unless_on (trapped S) (printed U) (printed_by e.act (trapped U))) ∙ ap (λ l. unless_fell (trapped S) l) (sym (printed_step e U)))
