-- Checking makes one body for each method and constructor.
use Rattle.std.proofs.Common.{◌≡◌, ◌∙◌, ℕ, ◌+◌, Bool, false, List, ◌∷◌, ◌++◌, length, Option, Some, None, Result, Ok, Err, refl, ap, sym, subst}
use Rattle.std.proofs.lemmas.List.{length-append}
use Rattle.lang_base.specs.declared.refusal.Refusal.{Refusal}
use Rattle.syntax_tree.specs.declared.class.Class.{Class}
use Rattle.syntax_tree.specs.declared.class.Member.{Member}
use Rattle.syntax_tree.specs.declared.class.Member.TheVariants as member
use Rattle.syntax_tree.specs.declared.class.Method.{Method}
use Rattle.body_assembly.specs.Assembled.{PlainBody}
use Rattle.body_exprs.specs.declared.env.Env.{Env}
use Rattle.body_check.specs.Methods.{bodies_of, PlainBodies, after_bodies, after_ok}
use Rattle.sound_lemmas.proofs.BodyRules.{is_method, MemberChecking, MembersChecking, ClassesChecking}
use Rattle.sound_lemmas.proofs.Signatures.{own_in, methods_in, all_methods}

both_as_many : {A B : Type 0} (xs ys : List A) (us vs : List B) → length xs ≡ length us → length ys ≡ length vs → length (xs ++ ys) ≡ length (us ++ vs)
both_as_many xs ys us vs h k = length-append xs ys ∙ ap (λ n. n + length ys) h ∙ ap (λ n. length us + n) k ∙ sym (length-append us vs)

-- what a member makes
abbrev OneMade : Member → Result (Option PlainBody) Refusal → Type 0
OneMade m (Ok made) = length (bodies_of made) ≡ length (own_in m)
OneMade m (Err refusal) = Unit {0}

method_made : (method : Method) (r : Result PlainBody Refusal) → OneMade (member.Method method) (after_ok Some r)
method_made method (Ok body) = refl
method_made method (Err refusal) = tt

member_made : {env : Env} {params : List Bool} {m : Member} {number : ℕ} {r : Result (Option PlainBody) Refusal} → MemberChecking env params m number r → OneMade m r
member_made {m = m} (MemberChecking.no_method none) = by m none
  where
    by : (one : Member) → is_method one ≡ false → OneMade one (Ok None)
    by (member.Regions is_atomic names) h = refl
    by (member.Field field) h = refl
    by (member.Method method) h = cc
member_made (MemberChecking.a_method {method = method} {r = r} d j) = subst (OneMade (member.Method method)) j (method_made method r)

-- what the members of a class make
abbrev AllMade : List Member → Result PlainBodies Refusal → Type 0
AllMade ms (Ok made) = length made.bodies ≡ length (methods_in ms)
AllMade ms (Err refusal) = Unit {0}

more_made : (m : Member) (ms : List Member) (made : Option PlainBody) (r : Result PlainBodies Refusal) → OneMade m (Ok made) → AllMade ms r →
    AllMade (m ∷ ms) (after_ok (after_bodies (bodies_of made)) r)
more_made m ms made (Ok all) h k = both_as_many (bodies_of made) all.bodies (own_in m) (methods_in ms) h k
more_made m ms made (Err refusal) h k = tt

members_made : {env : Env} {params : List Bool} {ms : List Member} {number : ℕ} {r : Result PlainBodies Refusal} → MembersChecking env params ms number r → AllMade ms r
members_made MembersChecking.no_members = refl
members_made MembersChecking.is_refused = tt
members_made (MembersChecking.then_members {m = m} {ms = ms} {made = made} {u = u} d rest j) =
    subst (AllMade (m ∷ ms)) j (more_made m ms made u (member_made d) (members_made rest))

-- what classes make
abbrev ClassesMade : List Class → Result (List PlainBody) Refusal → Type 0
ClassesMade classes (Ok bodies) = length bodies ≡ length (all_methods classes)
ClassesMade classes (Err refusal) = Unit {0}

more_classes : (class : Class) (classes : List Class) (made : PlainBodies) (r : Result (List PlainBody) Refusal) → AllMade class.members (Ok made) → ClassesMade classes r →
    ClassesMade (class ∷ classes) (after_ok (λ bodies. made.bodies ++ bodies) r)
more_classes class classes made (Ok bodies) h k = both_as_many made.bodies bodies (methods_in class.members) (all_methods classes) h k
more_classes class classes made (Err refusal) h k = tt

classes_made : {start : Env} {at number : ℕ} {classes : List Class} {r : Result (List PlainBody) Refusal} → ClassesChecking start at classes number r → ClassesMade classes r
classes_made ClassesChecking.no_classes = refl
classes_made ClassesChecking.is_refused = tt
classes_made (ClassesChecking.then_classes {class = class} {classes = classes} {made = made} {u = u} d rest j) =
    subst (ClassesMade (class ∷ classes)) j (more_classes class classes made u (members_made d) (classes_made rest))

pub bodies_made : {start : Env} {at number : ℕ} {classes : List Class} {bodies : List PlainBody} → ClassesChecking start at classes number (Ok bodies) → length bodies ≡ length (all_methods classes)
bodies_made d = classes_made d
