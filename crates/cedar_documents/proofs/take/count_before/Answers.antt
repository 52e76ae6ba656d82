use Rattle.std.proofs.Common.{rules, of_calls}
use Rattle.std.specs.Prelude.{nat_lt}
use Rattle.std.proofs.lemmas.Fn.{always_returns_same}
use Rattle.std.proofs.lemmas.List.Sorted.{IsPartitionedBy-ltb}
use Rattle.cedar_documents.proofs.Places.{prefix_from_point, starts_rise}
use Rattle.cedar_documents.proofs.take.count_before.Goals as goal

pub returns : goal.returns
returns c =
    let ts = c.args.tokens.now in
    prefix_from_point _ ts c.partition_point.result c.partition_point.ensures.bound
    (c.partition_point.ensures.partitioned (λ t. nat_lt t.span.start c.args.byte)
    (always_returns_same _ _ _ (λ a r f k. search (rules, of_calls)))
    (IsPartitionedBy-ltb (λ t. t.span.start) ts c.args.byte (starts_rise ts c.requires)))
