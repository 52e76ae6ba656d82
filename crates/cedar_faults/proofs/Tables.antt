-- The tables of parts are those of their rules.
use Rattle.std.specs.Prelude.{[]}
use Rattle.std.proofs.Common.{refl}
use Rattle.cedar_tokens.specs.declared.kind.Kind.{Kind}
use Rattle.cedar_faults.specs.declared.part.Part.TheVariants as P
use Rattle.cedar_faults.proofs.Branches.{Begins, IsMadeOf}

pub token : (k : Kind) → Begins (P.Token k)
token k = record { head = _; more = _; flat_is = refl; table_is = refl; is_decided = refl; otherwise_is = refl }

pub word : Begins P.Word
word = record { head = _; more = _; flat_is = refl; table_is = refl; is_decided = refl; otherwise_is = refl }

pub identifier : Begins P.Identifier
identifier = record { head = _; more = _; flat_is = refl; table_is = refl; is_decided = refl; otherwise_is = refl }

pub policies : Begins P.Policies
policies = record { head = _; more = _; flat_is = refl; table_is = refl; is_decided = refl; otherwise_is = refl }

pub policy : Begins P.Policy
policy = record { head = _; more = _; flat_is = refl; table_is = refl; is_decided = refl; otherwise_is = refl }

pub annotation_text : Begins P.AnnotationText
annotation_text = record { head = _; more = _; flat_is = refl; table_is = refl; is_decided = refl; otherwise_is = refl }

pub principal_test : Begins P.PrincipalTest
principal_test = record { head = _; more = _; flat_is = refl; table_is = refl; is_decided = refl; otherwise_is = refl }

pub principal_entity : Begins P.PrincipalEntity
principal_entity = record { head = _; more = _; flat_is = refl; table_is = refl; is_decided = refl; otherwise_is = refl }

pub principal_in : Begins P.PrincipalIn
principal_in = record { head = _; more = _; flat_is = refl; table_is = refl; is_decided = refl; otherwise_is = refl }

pub action_test : Begins P.ActionTest
action_test = record { head = _; more = _; flat_is = refl; table_is = refl; is_decided = refl; otherwise_is = refl }

pub action_set : Begins P.ActionSet
action_set = record { head = _; more = _; flat_is = refl; table_is = refl; is_decided = refl; otherwise_is = refl }

pub resource_test : Begins P.ResourceTest
resource_test = record { head = _; more = _; flat_is = refl; table_is = refl; is_decided = refl; otherwise_is = refl }

pub resource_entity : Begins P.ResourceEntity
resource_entity = record { head = _; more = _; flat_is = refl; table_is = refl; is_decided = refl; otherwise_is = refl }

pub resource_in : Begins P.ResourceIn
resource_in = record { head = _; more = _; flat_is = refl; table_is = refl; is_decided = refl; otherwise_is = refl }

pub entity : Begins P.Entity
entity = record { head = _; more = _; flat_is = refl; table_is = refl; is_decided = refl; otherwise_is = refl }

pub entity_marks : Begins P.EntityMarks
entity_marks = record { head = _; more = _; flat_is = refl; table_is = refl; is_decided = refl; otherwise_is = refl }

pub entity_next : Begins P.EntityNext
entity_next = record { head = _; more = _; flat_is = refl; table_is = refl; is_decided = refl; otherwise_is = refl }

pub entities : Begins P.Entities
entities = record { head = _; more = _; flat_is = refl; table_is = refl; is_decided = refl; otherwise_is = refl }

pub more_entities : Begins P.MoreEntities
more_entities = record { head = _; more = _; flat_is = refl; table_is = refl; is_decided = refl; otherwise_is = refl }

pub path_marks : Begins P.PathMarks
path_marks = record { head = _; more = _; flat_is = refl; table_is = refl; is_decided = refl; otherwise_is = refl }

pub comma : Begins P.Comma
comma = record { head = _; more = _; flat_is = refl; table_is = refl; is_decided = refl; otherwise_is = refl }

pub conditions : Begins P.Conditions
conditions = record { head = _; more = _; flat_is = refl; table_is = refl; is_decided = refl; otherwise_is = refl }

pub more_or : Begins P.MoreOr
more_or = record { head = _; more = _; flat_is = refl; table_is = refl; is_decided = refl; otherwise_is = refl }

pub more_and : Begins P.MoreAnd
more_and = record { head = _; more = _; flat_is = refl; table_is = refl; is_decided = refl; otherwise_is = refl }

pub comparison : Begins P.Comparison
comparison = record { head = _; more = _; flat_is = refl; table_is = refl; is_decided = refl; otherwise_is = refl }

pub has_operand : Begins P.HasOperand
has_operand = record { head = _; more = _; flat_is = refl; table_is = refl; is_decided = refl; otherwise_is = refl }

pub fields : Begins P.Fields
fields = record { head = _; more = _; flat_is = refl; table_is = refl; is_decided = refl; otherwise_is = refl }

pub in_add : Begins P.InAdd
in_add = record { head = _; more = _; flat_is = refl; table_is = refl; is_decided = refl; otherwise_is = refl }

pub more_add : Begins P.MoreAdd
more_add = record { head = _; more = _; flat_is = refl; table_is = refl; is_decided = refl; otherwise_is = refl }

pub more_mult : Begins P.MoreMult
more_mult = record { head = _; more = _; flat_is = refl; table_is = refl; is_decided = refl; otherwise_is = refl }

pub unary : Begins P.Unary
unary = record { head = _; more = _; flat_is = refl; table_is = refl; is_decided = refl; otherwise_is = refl }

pub three_negs : Begins P.ThreeNegs
three_negs = record { head = _; more = _; flat_is = refl; table_is = refl; is_decided = refl; otherwise_is = refl }

pub two_negs : Begins P.TwoNegs
two_negs = record { head = _; more = _; flat_is = refl; table_is = refl; is_decided = refl; otherwise_is = refl }

pub one_neg : Begins P.OneNeg
one_neg = record { head = _; more = _; flat_is = refl; table_is = refl; is_decided = refl; otherwise_is = refl }

pub three_dashes : Begins P.ThreeDashes
three_dashes = record { head = _; more = _; flat_is = refl; table_is = refl; is_decided = refl; otherwise_is = refl }

pub two_dashes : Begins P.TwoDashes
two_dashes = record { head = _; more = _; flat_is = refl; table_is = refl; is_decided = refl; otherwise_is = refl }

pub one_dash : Begins P.OneDash
one_dash = record { head = _; more = _; flat_is = refl; table_is = refl; is_decided = refl; otherwise_is = refl }

pub item : Begins P.Item
item = record { head = _; more = _; flat_is = refl; table_is = refl; is_decided = refl; otherwise_is = refl }

pub variable_marks : Begins P.VariableMarks
variable_marks = record { head = _; more = _; flat_is = refl; table_is = refl; is_decided = refl; otherwise_is = refl }

pub name_marks : Begins P.NameMarks
name_marks = record { head = _; more = _; flat_is = refl; table_is = refl; is_decided = refl; otherwise_is = refl }

pub name_next : Begins P.NameNext
name_next = record { head = _; more = _; flat_is = refl; table_is = refl; is_decided = refl; otherwise_is = refl }

pub accesses : Begins P.Accesses
accesses = record { head = _; more = _; flat_is = refl; table_is = refl; is_decided = refl; otherwise_is = refl }

pub call : Begins P.Call
call = record { head = _; more = _; flat_is = refl; table_is = refl; is_decided = refl; otherwise_is = refl }

pub exprs : Begins P.Exprs
exprs = record { head = _; more = _; flat_is = refl; table_is = refl; is_decided = refl; otherwise_is = refl }

pub more_exprs : Begins P.MoreExprs
more_exprs = record { head = _; more = _; flat_is = refl; table_is = refl; is_decided = refl; otherwise_is = refl }

pub inits : Begins P.Inits
inits = record { head = _; more = _; flat_is = refl; table_is = refl; is_decided = refl; otherwise_is = refl }

pub more_inits : Begins P.MoreInits
more_inits = record { head = _; more = _; flat_is = refl; table_is = refl; is_decided = refl; otherwise_is = refl }

pub effect : Begins P.Effect
effect = record { head = _; more = _; flat_is = refl; table_is = refl; is_decided = refl; otherwise_is = refl }

pub signature : IsMadeOf P.Signature
signature = record { parts = _; flat_is = refl; turn_is = λ k b. refl }

pub or_part : IsMadeOf P.Or
or_part = record { parts = _; flat_is = refl; turn_is = λ k b. refl }

pub and_part : IsMadeOf P.And
and_part = record { parts = _; flat_is = refl; turn_is = λ k b. refl }

pub relation : IsMadeOf P.Relation
relation = record { parts = _; flat_is = refl; turn_is = λ k b. refl }

pub add : IsMadeOf P.Add
add = record { parts = _; flat_is = refl; turn_is = λ k b. refl }

pub mult : IsMadeOf P.Mult
mult = record { parts = _; flat_is = refl; turn_is = λ k b. refl }

pub member : IsMadeOf P.Member
member = record { parts = _; flat_is = refl; turn_is = λ k b. refl }
