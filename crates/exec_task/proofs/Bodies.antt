-- What stands at a position of a body.
use Rattle.std.proofs.Common.{◌≡◌, ℕ, zero, suc, List, [], ◌∷◌, refl, sym, ap, ◌∙◌, Option, Some, None}
use Rattle.std.specs.Prelude.{slice_get, option_map}
use Rattle.std.proofs.lemmas.Option.{slice_get-map}
use Rattle.lang_base.specs.declared.place.Place.{Place}
use Rattle.code_instrs.specs.declared.code.Body.{Body}
use Rattle.code_instrs.specs.declared.code.Code.{Code}
use Rattle.code_instrs.specs.declared.instr.Instr.{Instr}
use Rattle.code_instrs.specs.Plain.{lines_of, plain_body, plain_code, body_or_none, body_at}

no_place : (is : List Instr) (ps : List Place) (k : ℕ) → slice_get ps k ≡ None → slice_get (lines_of is ps) k ≡ None
no_place [] ps k e = refl
no_place (x ∷ is) [] k e = refl
no_place (x ∷ is) (p ∷ ps) zero e = absurd (cc)
no_place (x ∷ is) (p ∷ ps) (suc k) e = no_place is ps k e

no_instr : (is : List Instr) (ps : List Place) (k : ℕ) → slice_get is k ≡ None → slice_get (lines_of is ps) k ≡ None
no_instr [] ps k e = refl
no_instr (x ∷ is) [] k e = refl
no_instr (x ∷ is) (p ∷ ps) zero e = absurd (cc)
no_instr (x ∷ is) (p ∷ ps) (suc k) e = no_instr is ps k e

both_there : (is : List Instr) (ps : List Place) (k : ℕ) (x : Instr) (p : Place) → slice_get is k ≡ Some x → slice_get ps k ≡ Some p
    → slice_get (lines_of is ps) k ≡ Some (record { instr = x; place = p })
both_there [] ps k x p e f = absurd (cc)
both_there (y ∷ is) [] k x p e f = absurd (cc)
both_there (y ∷ is) (q ∷ ps) zero x p e f = let g : y ≡ x = cc in let h : q ≡ p = cc in ap (λ i. Some (record { instr = i; place = q })) g ∙ ap (λ r. Some (record { instr = x; place = r })) h
both_there (y ∷ is) (q ∷ ps) (suc k) x p e f = both_there is ps k x p e f

-- a body that is there, or that isn't
body_found : (C : Code) (j : ℕ) (o : Option Body) → o ≡ slice_get C.bodies j → body_at (plain_code C) j ≡ body_or_none (option_map plain_body o)
body_found C j o e = ap body_or_none (slice_get-map plain_body C.bodies j ∙ ap (option_map plain_body) (sym e))

module _ (C : Code) (j k : ℕ) where
  pub no_body : None ≡ slice_get C.bodies j → None ≡ slice_get (body_at (plain_code C) j).lines k
  no_body e = sym (ap (λ b. slice_get b.lines k) (body_found C j None e))

  pub without_place : (b : Body) → Some b ≡ slice_get C.bodies j → None ≡ slice_get b.places k → None ≡ slice_get (body_at (plain_code C) j).lines k
  without_place b e f = sym (ap (λ b. slice_get b.lines k) (body_found C j (Some b) e) ∙ no_place b.instrs b.places k (sym f))

  pub without_instr : (b : Body) → Some b ≡ slice_get C.bodies j → None ≡ slice_get b.instrs k → None ≡ slice_get (body_at (plain_code C) j).lines k
  without_instr b e f = sym (ap (λ b. slice_get b.lines k) (body_found C j (Some b) e) ∙ no_instr b.instrs b.places k (sym f))

  pub with_both : (b : Body) (x : Instr) (p : Place) → Some b ≡ slice_get C.bodies j → Some x ≡ slice_get b.instrs k → Some p ≡ slice_get b.places k
      → Some (record { instr = x; place = p }) ≡ slice_get (body_at (plain_code C) j).lines k
  with_both b x p e f h =
      sym (ap (λ b. slice_get b.lines k) (body_found C j (Some b) e) ∙ both_there b.instrs b.places k x p (sym f) (sym h))
