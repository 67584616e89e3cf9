use Rattle.std.proofs.Common.{subst}
use Rattle.sound_lemmas.proofs.StatementRules.{AssigningLocal, Performing, Returning, Printing}
use Rattle.sound_lemmas.proofs.StatementSteps.{local_steps, perform_steps, return_steps, print_steps}
use Rattle.sound_bodies.proofs.statements.Singles.{assigning, performing, returning, printing}
use Rattle.sound_bodies.proofs.laws.law_singles.Goals as goal

pub returns : goal.returns
returns c = record {
  singles = λ P L params around w may_read may_assign tells sees. record {
    assigned = λ node target value u s fits all may is.
        assigning P L w may_read may_assign tells sees node target value u s fits all may (subst (AssigningLocal node target value w) is (local_steps node target value w));
    performed = λ node value u s fits all p is.
        performing P L w may_read may_assign tells sees node value u s fits all p (subst (Performing node value w) is (perform_steps node value w));
    returned = λ node value u s fits all returns is.
        returning P L w may_read may_assign tells sees around node value u s fits all returns (subst (Returning around node value w) is (return_steps around node value w));
    printed = λ node value u s fits all is. printing P L w may_read may_assign tells sees node value u s fits all (subst (Printing node value w) is (print_steps node value w));
  };
}
