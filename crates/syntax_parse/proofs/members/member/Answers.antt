use Rattle.syntax_parse.proofs.members.member.Goals as goal
use Rattle.syntax_parse.proofs.parts.MemberParts.{member_reads}

pub returns-clause-reads : goal.returns-clause-reads
returns-clause-reads c = member_reads c.in_ok-member.ensures.moves.level c.in_ok-member.ensures.reads
