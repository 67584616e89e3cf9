-- An accepted program is well typed: its declarations, its inheritance, its bodies and its `main`, joined.
use Rattle.std.proofs.Common.{◌≡◌, ◌∙◌, ℕ, [], ◌≡◌, Some, subst, sym}
use Rattle.lang_typed.specs.Plain.{PlainProgram, PlainClass, PlainMember, PlainParent}
use Rattle.lang_typed.specs.Scope.{class_at}
use Rattle.lang_typed.specs.Table.{Extends, GoodClass, GoodMember, class_scope}
use Rattle.lang_typed.specs.Types.{GoodArgs}
use Rattle.sound_lemmas.proofs.Lists.{some_same}
use Rattle.sound_decls.specs.Laws.{AcceptedIsDeclared, Declared, GoodParent, GoodSignature}
use Rattle.sound_decls.specs.Laws.{AcceptedHasMain, AcceptedInherits, Inherits, KeepsSuper}
use Rattle.sound_bodies.specs.Laws.{AcceptedIsWellTyped}
use Rattle.sound_bodies.specs.Whole.{BodiesPass, GoodBody, made_of, never_forks}
use Rattle.sound_bodies.proofs.reach.ForksReported.{forks_reported}
use Rattle.sound_bodies.proofs.table.Lineage.{supers_agree}
use Rattle.sound_bodies.proofs.statements.MemberBodies.{bodies_pass}
use Rattle.sound_bodies.proofs.table.Reported.{table_tells}
use Rattle.sound_bodies.proofs.reach.Unmarked.{none_forks}
use Rattle.sound_bodies.proofs.scope.Unnamed.{all_signed}

extends_so : (P : PlainProgram) (rank : ℕ → ℕ) (c : ℕ) (k : PlainClass) (p : PlainParent) → GoodParent P k p → KeepsSuper P rank c k p → Extends P rank c k p
extends_so P rank c k p good keeps =
    let same = some_same (sym keeps.is ∙ good.is) in
    record {
      above = keeps.above;
      is = keeps.is;
      before = keeps.before;
      args = subst (λ (a : PlainClass). GoodArgs P (class_scope k) 0 a.params a.given [] p.args) (sym same) good.args;
      full = good.full;
      no_constructor = keeps.no_constructor;
      own_fields = keeps.own_fields;
      fields = keeps.fields;
      rows = keeps.rows;
    }

good_class : (P : PlainProgram) (declared : Declared P) (inherits : Inherits P) (c : ℕ) (k : PlainClass) → class_at P c ≡ Some k → GoodClass P inherits.rank c k
good_class P declared inherits c k is = record {
  given = declared.given c k is;
  parent = λ p e. extends_so P inherits.rank c k p (declared.parents c k p is e) (inherits.supers c k p is e);
  fields = declared.fields c k is;
  rows = inherits.rows c k is;
  constructor = inherits.constructors c k is;
}

good_member : (P : PlainProgram) (member_nd_free : ℕ → _) (n : ℕ) (m : PlainMember) (signature : GoodSignature P m) → GoodBody P member_nd_free n m signature.class → GoodMember P member_nd_free n m
good_member P member_nd_free n m signature body = record {
  class = signature.class;
  is = signature.is;
  given = signature.given;
  formals = signature.formals;
  result = signature.result;
  summary = signature.summary;
  room = body.room;
  effects = body.effects;
  passes = body.passes_so;
  covered = body.covered;
  ends = body.ends;
}

pub all_bodies_pass : BodiesPass
all_bodies_pass = bodies_pass
    (λ program table bodies written accepted. table_tells program table bodies written accepted)
    (λ program table bodies written accepted. supers_agree program table bodies accepted)
    (λ program table bodies written accepted. all_signed program table bodies accepted)
    (λ program table bodies written accepted start fresh method number class stands params made u d reached.
    forks_reported program table bodies written accepted start fresh method number class stands params made u d reached)

pub well_typed : AcceptedIsDeclared → AcceptedInherits → AcceptedHasMain → AcceptedIsWellTyped
well_typed declares inherits has_main program table bodies written accepted =
    let P = made_of program table bodies in
    let declared = declares program table bodies written accepted in
    let inherited = inherits program table bodies written accepted in
    record {
      rank = inherited.rank;
      member_nd_free = never_forks table;
      classes = good_class P declared inherited;
      members = λ n m is.
          let signature = declared.members n m is in
          good_member P (never_forks table) n m signature (all_bodies_pass program table bodies written accepted n m signature.class is signature.is);
      main = has_main program table bodies written accepted;
      without_nd = λ none n. none_forks program table bodies accepted none n;
    }
