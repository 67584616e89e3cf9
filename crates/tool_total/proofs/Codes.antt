-- Code as plain data is that of some code.
use Rattle.std.proofs.Common.{◌≡◌, ◌∙◌, ℕ, suc, ◌+◌, List, [], ◌∷◌, ◌++◌, map, length, length-append, append_assoc, Option, Some, None, option_map, slice_get, refl, sym, ap, ap₂, arith}
use Rattle.std.proofs.lemmas.List.{length-map}
use Rattle.lang_base.specs.declared.region.Rpl.{Rpl}
use Rattle.lang_typed.specs.Plain.{PlainParent}
use Rattle.code_instrs.specs.Plain.{ClassCode, Line, Method, PlainBody, PlainCode, Site, Title, array_site, block_site, call_site, fork_site, lines_of, new_site, of_branch, of_member, plain_body, member_in, member_or_none, plain_class, plain_code, plain_site, plain_title, spread_site}
use Rattle.code_instrs.specs.declared.code.Body.{Body}
use Rattle.code_instrs.specs.declared.code.BranchCopies.{BranchCopies}
use Rattle.code_instrs.specs.declared.code.ClassCode.{ClassCode as DeclaredClass}
use Rattle.code_instrs.specs.declared.code.Code.{Code}
use Rattle.code_instrs.specs.declared.code.MethodCode.{MethodCode}
use Rattle.code_instrs.specs.declared.code.Site.{Site as DeclaredSite}
use Rattle.code_instrs.specs.declared.code.Site.TheVariants as site
use Rattle.code_instrs.specs.declared.code.Title.{Title as DeclaredTitle}
use Rattle.code_instrs.specs.declared.code.Title.TheVariants as title
use Rattle.runs_simulation.proofs.events.Sayings.{map_back}

lines_back : (ls : List Line) → lines_of (map (λ (l : Line). l.instr) ls) (map (λ (l : Line). l.place) ls) ≡ ls
lines_back [] = refl
lines_back (l ∷ ls) = ap (λ rest. l ∷ rest) (lines_back ls)

abbrev title_for : Title → DeclaredTitle
title_for of_member = title.Member []
title_for (of_branch s n) = title.Branch s n

title_back : (t : Title) → plain_title (title_for t) ≡ t
title_back of_member = refl
title_back (of_branch s n) = refl

abbrev body_for : PlainBody → Body
body_for b = record {
  title = title_for b.title;
  instrs = map (λ (l : Line). l.instr) b.lines;
  places = map (λ (l : Line). l.place) b.lines;
  slots = b.slots;
  locals = b.local_regions;
}

body_back : (b : PlainBody) → plain_body (body_for b) ≡ b
body_back b = λ i. record { title = title_back b.title i; lines = lines_back b.lines i; slots = b.slots; local_regions = b.local_regions }

abbrev method_for : Method → MethodCode
method_for m = record { owner = m.owner; body = m.body }

abbrev parent_for : Option PlainParent → Option ℕ
parent_for None = None
parent_for (Some p) = Some p.class

abbrev args_for : Option PlainParent → List Rpl
args_for None = []
args_for (Some p) = p.args

-- so many numbers from one on
abbrev up_from : ℕ → List Method → List ℕ
up_from n [] = []
up_from n (m ∷ ms) = n ∷ up_from (suc n) ms

-- a class whose rows are members of these numbers
abbrev class_for : ℕ → ClassCode → DeclaredClass
class_for n k = record {
  parent = parent_for k.parent;
  args = args_for k.parent;
  fields = k.fields;
  constructor = k.constructor;
  methods = up_from n k.methods;
}

abbrev classes_for : ℕ → List ClassCode → List DeclaredClass
classes_for n [] = []
classes_for n (k ∷ ks) = class_for n k ∷ classes_for (length k.methods + n) ks

abbrev members_for : List ClassCode → List MethodCode
members_for [] = []
members_for (k ∷ ks) = map method_for k.methods ++ members_for ks

abbrev parent_with : List Rpl → ℕ → PlainParent
parent_with args c = record { class = c; args = args }

parent_back : (p : Option PlainParent) → option_map (parent_with (args_for p)) (parent_for p) ≡ p
parent_back None = refl
parent_back (Some p) = refl

there : (before : List MethodCode) (m : MethodCode) (after : List MethodCode) → slice_get (before ++ m ∷ after) (length before) ≡ Some m
there [] m after = refl
there (b ∷ before) m after = there before m after

counted : (before : List MethodCode) (m : MethodCode) → suc (length before) ≡ length (before ++ m ∷ [])
counted before m = omega (arith, length-append before (m ∷ []))

rows_back : (before : List MethodCode) (ms : List Method) (after : List MethodCode) → map (member_in (before ++ (map method_for ms ++ after))) (up_from (length before) ms) ≡ ms
rows_back before [] after = refl
rows_back before (m ∷ ms) after =
    ap₂ ◌∷◌ (ap member_or_none (there before (method_for m) (map method_for ms ++ after)))
    (ap₂ (λ members n. map (member_in members) (up_from n ms)) (sym (append_assoc before (method_for m ∷ []) (map method_for ms ++ after))) (counted before (method_for m))
    ∙ rows_back (before ++ method_for m ∷ []) ms after)

class_back : (before : List MethodCode) (k : ClassCode) (after : List MethodCode) → plain_class (before ++ (map method_for k.methods ++ after)) (class_for (length before) k) ≡ k
class_back before k after = λ i. record {
  parent = parent_back k.parent i;
  fields = k.fields;
  constructor = k.constructor;
  methods = rows_back before k.methods after i;
}

classes_back : (before : List MethodCode) (ks : List ClassCode) → map (plain_class (before ++ members_for ks)) (classes_for (length before) ks) ≡ ks
classes_back before [] = refl
classes_back before (k ∷ ks) =
    ap₂ ◌∷◌ (class_back before k (members_for ks))
    (ap₂ (λ members n. map (plain_class members) (classes_for n ks)) (sym (append_assoc before (map method_for k.methods) (members_for ks)))
    (omega (arith, length-append before (map method_for k.methods), length-map k.methods method_for))
    ∙ classes_back (before ++ map method_for k.methods) ks)

abbrev copies_for : List ℕ → BranchCopies
copies_for slots = record { slots = slots }

abbrev slots_in : BranchCopies → List ℕ
slots_in c = c.slots

abbrev site_for : Site → DeclaredSite
site_for (fork_site forking bodies copies) = site.Fork forking bodies (map copies_for copies)
site_for (spread_site forking body slot) = site.Spread forking body slot
site_for (block_site effects) = site.Block effects
site_for (call_site class row formals regions) = site.Call class row formals regions
site_for (new_site class formals regions) = site.New class formals regions
site_for (array_site region first) = site.Array region first

site_back : (s : Site) → plain_site (site_for s) ≡ s
site_back (fork_site forking bodies copies) = ap (fork_site forking bodies) (map_back slots_in copies_for (λ c. refl) copies)
site_back (spread_site forking body slot) = refl
site_back (block_site effects) = refl
site_back (call_site class row formals regions) = refl
site_back (new_site class formals regions) = refl
site_back (array_site region first) = refl

abbrev pub code_for : PlainCode → Code
code_for C = record {
  classes = classes_for 0 C.classes;
  members = members_for C.classes;
  bodies = map body_for C.bodies;
  sites = map site_for C.sites;
  texts = C.texts;
  main_class = C.main_class;
  main_body = C.main_body;
}

pub code_back : (C : PlainCode) → plain_code (code_for C) ≡ C
code_back C = λ i. record {
  classes = classes_back [] C.classes i;
  bodies = map_back plain_body body_for body_back C.bodies i;
  sites = map_back plain_site site_for site_back C.sites i;
  texts = C.texts;
  main_class = C.main_class;
  main_body = C.main_body;
}
