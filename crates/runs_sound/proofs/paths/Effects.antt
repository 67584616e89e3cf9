-- What effects speak of, where one covers another, and where arguments are put in.
use Rattle.std.proofs.Common.{◌≡◌, ⊎_elim, inl, inr, ℕ, Bool, true, false, not, ◌&&◌, ◌||◌, List, [], ◌∷◌, map, refl, sym, ap, ◌∙◌, IsTrue}
use Rattle.std.specs.Prelude.{All}
use Rattle.std.proofs.lemmas.List.Elements.{All-head, All-tail}
use Rattle.std.proofs.lemmas.Bool.{and_parts, cases_Bool, false≢true}
use Rattle.lang_base.specs.declared.effect.Access.{Access as EffectAccess}
use Rattle.lang_base.specs.declared.effect.Access.TheVariants.{Read, Write}
use Rattle.lang_base.specs.declared.effect.Effect.{Effect}
use Rattle.lang_base.specs.declared.region.Rpl.{Rpl}
use Rattle.lang_base.specs.Effects.{is_write, covers_access, covers_effect, some_covers, set_covers}
use Rattle.lang_base.specs.Matching.{IsEnv}
use Rattle.lang_base.specs.Regions.{within, fully_specified, argument}
use Rattle.lang_typed.specs.Effects.{Own, does, uses, effect_with, effect_of, as_effects, summary_with}
use Rattle.runs_sound.specs.Settings.{Setting, env_of}
use Rattle.runs_sound.specs.Accesses.{Access, Speaks, Covers, LiesIn}
use Rattle.runs_sound.proofs.scopes.Closed.{ClosedPath}
use Rattle.runs_sound.proofs.paths.Including.{includes_more, includes_up, includes_down}
use Rattle.runs_sound.proofs.classes.Types.{Stands}

write_covers : (x y : EffectAccess) → covers_access x y ≡ true → is_write y ≡ true → is_write x ≡ true
write_covers Write y h w = refl
write_covers Read Read h w = w
write_covers Read Write h w = absurd (false≢true h)

mark_covers : (x y : Bool) → (not x || y) ≡ true → x ≡ true → y ≡ true
mark_covers true y h e = h
mark_covers false y h e = absurd (false≢true e)

record CoverParts (e f : Effect) : Type 0 where
  path : within f.rpl e.rpl ≡ true
  access : covers_access e.access f.access ≡ true
  mark : (not e.atomic || f.atomic) ≡ true

cover_parts : (e f : Effect) → covers_effect e f ≡ true → CoverParts e f
unfolding covers_effect
cover_parts e f h =
    let p = and_parts (within f.rpl e.rpl && covers_access e.access f.access) (not e.atomic || f.atomic) h in
    let q = and_parts (within f.rpl e.rpl) (covers_access e.access f.access) p.0 in
    record { path = q.0; access = q.1; mark = p.1 }

module _ (g : Setting) (v : IsEnv [] (env_of g)) (a : Access) where
  speaks_covers : (e f : Effect) → covers_effect e f ≡ true → Speaks g f a → Speaks g e a
  speaks_covers e f h s =
      let p = cover_parts e f h in
      record {
        includes = includes_more [] (env_of g) v f.rpl e.rpl p.path a.region s.includes;
        writes = λ w. write_covers e.access f.access p.access (s.writes w);
        guarded = λ m. s.guarded (mark_covers e.atomic f.atomic p.mark m);
      }

  some_lies : (es : List Effect) (f : Effect) → some_covers es f ≡ true → Speaks g f a → LiesIn g (map (λ e. does e) es) a
  some_lies [] f h s = absurd (false≢true h)
  some_lies (e ∷ es) f h s =
      ⊎_elim (λ t. inl (speaks_covers e f t s)) (λ n. inr (some_lies es f (sym (ap (λ z. z || some_covers es f) n) ∙ h) s)) (cases_Bool (covers_effect e f))

  own_speaks : (o : Own) → Covers g o a → Speaks g (effect_of o) a
  own_speaks (does e) c = c
  own_speaks (uses k e) c = c.0

  -- what a body does its summary speaks of
  pub body_lies : (es : List Effect) (E : List Own) → set_covers es (as_effects E) ≡ true → LiesIn g E a → LiesIn g (map (λ e. does e) es) a
  body_lies es [] h l = absurd l
  body_lies es (o ∷ E) h l =
      let p = and_parts (some_covers es (effect_of o)) _ h in
      elim l [ inl c ↦ some_lies es (effect_of o) p.0 (own_speaks o c) | inr r ↦ body_lies es E p.1 r ]

  pub summary_lies : (es fs : List Effect) → set_covers es fs ≡ true → LiesIn g (map (λ e. does e) fs) a → LiesIn g (map (λ e. does e) es) a
  summary_lies es [] h l = absurd l
  summary_lies es (f ∷ fs) h l =
      let p = and_parts (some_covers es f) _ h in
      elim l [ inl c ↦ some_lies es f p.0 c | inr r ↦ summary_lies es fs p.1 r ]

-- arguments put in: a summary seen from outside, and from inside
pub lies_up : (n : ℕ) (g inner : Setting) (args : List Rpl) → Stands n 0 (env_of g) (env_of inner) args → (a : Access) (es : List Effect) →
    All (λ (e : Effect). ClosedPath n 0 e.rpl) es →
    LiesIn inner (map (λ e. does e) es) a → LiesIn g (summary_with args es) a
lies_up n g inner args s a [] c l = absurd l
lies_up n g inner args s a (e ∷ es) c l = elim l [
  | inl h ↦ inl (record {
    includes = includes_up n (env_of g) (env_of inner) args s e.rpl
        (All-head (λ (e : Effect). ClosedPath n 0 e.rpl) e es c) a.region h.includes;
    writes = h.writes;
    guarded = h.guarded;
  })
  | inr r ↦ inr (lies_up n g inner args s a es (All-tail (λ (e : Effect). ClosedPath n 0 e.rpl) e es c) r)
]

pub lies_down : (n : ℕ) (g inner : Setting) (args : List Rpl) → Stands n 0 (env_of g) (env_of inner) args →
    ((p : ℕ) → IsTrue (fully_specified (argument args p))) → (a : Access) (es : List Effect) →
    All (λ (e : Effect). ClosedPath n 0 e.rpl) es → LiesIn g (map (λ e. does e) (map (effect_with args) es)) a → LiesIn inner (map (λ e. does e) es) a
lies_down n g inner args s full a [] c l = absurd l
lies_down n g inner args s full a (e ∷ es) c l = elim l [
  | inl h ↦ inl (record {
    includes = includes_down n (env_of g) (env_of inner) args s full e.rpl (All-head (λ (e : Effect). ClosedPath n 0 e.rpl) e es c)
        a.region h.includes;
    writes = h.writes;
    guarded = h.guarded;
  })
  | inr r ↦ inr (lies_down n g inner args s full a es (All-tail (λ (e : Effect). ClosedPath n 0 e.rpl) e es c) r)
]
