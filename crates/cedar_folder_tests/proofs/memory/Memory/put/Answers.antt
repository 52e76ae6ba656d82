use Rattle.std.proofs.Common.{refl}
use Rattle.cedar_folder_tests.proofs.LogLemmas.{made}
use Rattle.cedar_folder_tests.proofs.memory.Memory.put.Goals as goal

pub returns : goal.returns
returns c = made _ _ _ c.in_ok-name.name _ c.add.result _ _ c.in_ok-name.ensures.ok
    (c.in_ok-bytes.ensures.items_if_clones_equal (λ x y e. e)) refl c.add.ensures
