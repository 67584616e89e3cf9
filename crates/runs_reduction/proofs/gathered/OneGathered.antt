-- The run with each block's events at its entry is one.
use Rattle.std.proofs.Common.{◌≡◌, ℕ, ◌<◌, ◌⊎◌, inl, inr, ⊎_elim, [], ◌∷◌, length, refl, sym, ap, ◌∙◌, subst, arith}
use Rattle.std.proofs.lemmas.Bool.{cases_eq}
use Rattle.runs_theory.specs.Objects.{Path}
use Rattle.runs_theory.specs.Runs.{Event, Run, Upto, count, mine}
use Rattle.runs_reduction.specs.Gathered.{Anchor, AtEntries}
use Rattle.runs_reduction.specs.Insertion.{Earlier}
use Rattle.runs_theory.proofs.events.Upto.{upto_length, upto_split, upto_tail, Which, which, same_one, before, after}
use Rattle.runs_theory.proofs.events.Mine.{path_cases, mine_same, mine_step, mine_upto, numbered}
use Rattle.runs_theory.proofs.order.Sorted.{no_events, same_tail}
use Rattle.runs_reduction.proofs.gathered.AtEntries.{anchor_stands}

-- Two runs with the same events of each task are one where both keep to an order of these events
module _ (Ord : Path → ℕ → Path → ℕ → Type 0) where
  -- the order compares any two events of the run
  pub record Compares (G : Run) : Type 0 where
    pub each : (p q : Path) (k l : ℕ) → k < count G p → l < count G q → (p ≡ q → k ≡ l → ⊥) → Ord p k q l ⊎ Ord q l p k

  pub record Keeps (G : Run) : Type 0 where
    pub each : (p q : Path) (k l : ℕ) → k < count G p → l < count G q → Ord p k q l → Earlier G p k q l

  compares_tail : {e : Event} {G : Run} → Compares (e ∷ G) → Compares G
  compares_tail {e} {G} c = record {
    each = λ p q k l a b n. (let i = upto_length (mine_step e G p) in let j = upto_length (mine_step e G q) in
        c.each p q k l (omega arith) (omega arith) n);
  }

  keeps_tail : {e : Event} {G : Run} → Keeps (e ∷ G) → Keeps G
  keeps_tail {e} {G} s = record { each = each }
    where
      each : (p q : Path) (k l : ℕ) → k < count G p → l < count G q → Ord p k q l → Earlier G p k q l
      each p q k l a b o = go y (upto_split y.stands)
        where
          y : Earlier (e ∷ G) p k q l
          y = (let i = upto_length (mine_step e G p) in let j = upto_length (mine_step e G q) in s.each p q k l (omega arith) (omega arith) o)

          go : (y : Earlier (e ∷ G) p k q l) → ((y.event ≡ e) × (y.before ≡ G)) ⊎ Upto (y.event ∷ y.before) G → Earlier G p k q l
          go y (inl w) = absurd (let i = ap (λ Z. count Z q) w.1 in let j = y.number in omega arith)
          go y (inr w) = record { before = y.before; event = y.event; stands = w; path = y.path; number = y.number; more = y.more }

  -- the latest event is before no other
  not_top : {e : Event} {G : Run} (q : Path) (l : ℕ) → Earlier (e ∷ G) e.path (count G e.path) q l → ⊥
  not_top {e} {G} q l y = go (upto_split y.stands)
    where
      go : ((y.event ≡ e) × (y.before ≡ G)) ⊎ Upto (y.event ∷ y.before) G → ⊥
      go (inl w) = let i = ap (λ Z. count Z e.path) w.1 in let j = y.more in omega arith
      go (inr w) = let i = upto_length (mine_upto e.path (upto_tail w)) in let j = y.more in omega arith

  pub same_order : (G H : Run) → ((p : Path) → mine G p ≡ mine H p) → Compares G → Keeps G → Keeps H → G ≡ H
  same_order [] [] m c s t = refl
  same_order [] (y ∷ H) m c s t = absurd (no_events y H (sym (m y.path)))
  same_order (e ∷ G) [] m c s t = absurd (no_events e G (m e.path))
  same_order (e ∷ G) (y ∷ H) m c s t = go (same_order G H) (path_cases e.path y.path) (cases_eq (count G e.path) (count H y.path))
    where
      differ : (e.path ≡ y.path → count G e.path ≡ count H y.path → ⊥) → e ∷ G ≡ y ∷ H
      differ n = absurd (⊎_elim (λ o. not_top {e = e} {G = G} y.path (count H y.path) (s.each e.path y.path (count G e.path) (count H y.path) here there o))
          (λ o. not_top {e = y} {G = H} e.path (count G e.path) (t.each y.path e.path (count H y.path) (count G e.path) there_y here_e o))
          (c.each e.path y.path (count G e.path) (count H y.path) here there n))
        where
          here : count G e.path < count (e ∷ G) e.path
          here = (let i = ap length (mine_same e G e.path refl) in omega arith)

          there_y : count H y.path < count (y ∷ H) y.path
          there_y = (let i = ap length (mine_same y H y.path refl) in omega arith)

          there : count H y.path < count (e ∷ G) y.path
          there = (let i = ap length (m y.path) in let j = there_y in omega arith)

          here_e : count G e.path < count (y ∷ H) e.path
          here_e = (let i = ap length (m e.path) in let j = here in omega arith)

      go : (((p : Path) → mine G p ≡ mine H p) → Compares G → Keeps G → Keeps H → G ≡ H) → (e.path ≡ y.path) ⊎ (e.path ≡ y.path → ⊥)
          → (count G e.path ≡ count H y.path) ⊎ (count G e.path ≡ count H y.path → ⊥) → e ∷ G ≡ y ∷ H
      go rec (inr n) b = differ (λ k j. n k)
      go rec (inl k) (inr n) = differ (λ i j. n j)
      go rec (inl k) (inl n) =
          let l : e ∷ mine G e.path ≡ y ∷ mine H e.path = sym (mine_same e G e.path refl) ∙ m e.path ∙ mine_same y H e.path (sym k) in
          let ey : e ≡ y = cc in
          let tails = same_tail e G H (λ p. m p ∙ ap (λ z. mine (z ∷ H) p) (sym ey)) in
          let gh : G ≡ H = rec tails (compares_tail c) (keeps_tail s) (keeps_tail t) in
          λ i. ey i ∷ gh i

-- which of two events is first by their anchors
record Sooner (R : Run) (p : Path) (k : ℕ) (q : Path) (l : ℕ) : Type 0 where
  X : Run
  x : Event
  Y : Run
  y : Event
  A : Run
  a : Event
  B : Run
  b : Event
  x_stands : Upto (x ∷ X) R
  y_stands : Upto (y ∷ Y) R
  x_path : x.path ≡ p
  x_number : count X p ≡ k
  y_path : y.path ≡ q
  y_number : count Y q ≡ l
  x_anchor : Anchor X x A a
  y_anchor : Anchor Y y B b
  sooner : Upto (a ∷ A) B ⊎ ((A ≡ B) × Upto (x ∷ X) Y)

compares : (R G : Run) → ((p : Path) → mine G p ≡ mine R p) → AtEntries R G → Compares (Sooner R) G
compares R G m i = record { each = each }
  where
    each : (p q : Path) (k l : ℕ) → k < count G p → l < count G q → (p ≡ q → k ≡ l → ⊥) → Sooner R p k q l ⊎ Sooner R q l p k
    each p q k l a b n = by (numbered R p k (subst (λ es. k < length es) (m p) a)) (numbered R q l (subst (λ es. l < length es) (m q) b))
      where
        by : (x : Event) × (X : Run) × Upto (x ∷ X) R × (x.path ≡ p) × (count X p ≡ k) → (y : Event) × (Y : Run) × Upto (y ∷ Y) R × (y.path ≡ q)
            × (count Y q ≡ l) → Sooner R p k q l ⊎ Sooner R q l p k
        by x y = go (which (anchor_stands x.2 (i.has x.1 x.0 x.2).2) (anchor_stands y.2 (i.has y.1 y.0 y.2).2))
          where
            ax : (A : Run) × (a : Event) × Anchor x.1 x.0 A a
            ax = i.has x.1 x.0 x.2

            ay : (A : Run) × (a : Event) × Anchor y.1 y.0 A a
            ay = i.has y.1 y.0 y.2

            x_first : Upto (ax.1 ∷ ax.0) ay.0 ⊎ ((ax.0 ≡ ay.0) × Upto (x.0 ∷ x.1) y.1) → Sooner R p k q l
            x_first s = record {
              X = x.1;
              x = x.0;
              Y = y.1;
              y = y.0;
              A = ax.0;
              a = ax.1;
              B = ay.0;
              b = ay.1;
              x_stands = x.2;
              y_stands = y.2;
              x_path = x.3;
              x_number = x.4;
              y_path = y.3;
              y_number = y.4;
              x_anchor = ax.2;
              y_anchor = ay.2;
              sooner = s;
            }

            y_first : Upto (ay.1 ∷ ay.0) ax.0 ⊎ ((ay.0 ≡ ax.0) × Upto (y.0 ∷ y.1) x.1) → Sooner R q l p k
            y_first s = record {
              X = y.1;
              x = y.0;
              Y = x.1;
              y = x.0;
              A = ay.0;
              a = ay.1;
              B = ax.0;
              b = ax.1;
              x_stands = y.2;
              y_stands = x.2;
              x_path = y.3;
              x_number = y.4;
              y_path = x.3;
              y_number = x.4;
              x_anchor = ay.2;
              y_anchor = ax.2;
              sooner = s;
            }

            in_one : ax.0 ≡ ay.0 → Which x.0 x.1 y.0 y.1 → Sooner R p k q l ⊎ Sooner R q l p k
            in_one e (same_one u v) =
                let pq : p ≡ q = sym x.3 ∙ ap (λ z. z.path) u ∙ y.3 in
                let kl : k ≡ l = sym x.4 ∙ (λ j. count (v j) (pq j)) ∙ y.4 in
                absurd (n pq kl)
            in_one e (before h) = inl (x_first (inr (e, h)))
            in_one e (after h) = inr (y_first (inr (sym e, h)))

            go : Which ax.1 ax.0 ay.1 ay.0 → Sooner R p k q l ⊎ Sooner R q l p k
            go (same_one u v) = in_one v (which x.2 y.2)
            go (before h) = inl (x_first (inl h))
            go (after h) = inr (y_first (inl h))

keeps : (R G : Run) → AtEntries R G → Keeps (Sooner R) G
keeps R G i = record { each = each }
  where
    each : (p q : Path) (k l : ℕ) → k < count G p → l < count G q → Sooner R p k q l → Earlier G p k q l
    each p q k l a b s =
        let y = i.each s.X s.Y s.A s.B s.x s.y s.a s.b s.x_stands s.y_stands s.x_anchor s.y_anchor s.sooner in
        let y1 = subst (λ r. Earlier G r (count s.X r) s.y.path (count s.Y s.y.path)) s.x_path y in
        let y2 = subst (λ r. Earlier G p (count s.X p) r (count s.Y r)) s.y_path y1 in
        subst (λ j. Earlier G p k q j) s.y_number (subst (λ j. Earlier G p j q (count s.Y q)) s.x_number y2)

pub one_gathered : (R G H : Run) → ((p : Path) → mine G p ≡ mine R p) → ((p : Path) → mine H p ≡ mine R p) → AtEntries R G → AtEntries R H → G ≡ H
one_gathered R G H m n i j = same_order (Sooner R) G H (λ p. m p ∙ sym (n p)) (compares R G m i) (keeps R G i) (keeps R H j)
