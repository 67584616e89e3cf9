-- What a call sees of its object.
use Rattle.std.proofs.Common.{◌≡◌, true, length, sym, ap, ◌∙◌, subst}
use Rattle.std.proofs.lemmas.Bool.{cond-true}
use Rattle.lang_typed.specs.Scope.{parent_of}
use Rattle.lang_meaning.specs.Counts.{class_entered, class_seen, is_below}
use Rattle.runs_theory.proofs.events.Things.{same_some}
use Rattle.runs_sound.specs.Laws.{CallsEnterWhatTheySee}
use Rattle.runs_sound.specs.Work.{LookFits}
use Rattle.runs_sound.proofs.work.NdFree.{below_from}
use Rattle.runs_sound.proofs.classes.Chains.{is_below_it}

pub calls_enter_what_they_see : CallsEnterWhatTheySee
calls_enter_what_they_see P wt S env c args n i s x there looked =
    let seen = subst (λ z. LookFits z x) (sym (same_some i.shape there)) looked in
    let below : is_below (parent_of P) (length P.classes) i.class c ≡ true = is_below_it P wt i.is_one in (
      i.class,
      i.made_with,
      seen,
      below_from P (length P.classes) i.class c below,
      ap (λ z. class_entered (parent_of P) (length P.classes) c (class_seen z)) seen
          ∙ cond-true (is_below (parent_of P) (length P.classes) i.class c) (i.class, i.made_with) (c, i.made_with) below,
    )
