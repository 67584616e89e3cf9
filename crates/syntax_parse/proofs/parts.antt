pub mod ClassParts
pub mod MemberParts
pub mod ParamParts
pub mod StmtParts
