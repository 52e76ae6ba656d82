use Rattle.std.proofs.Common.{Err, Ok, subst}
use Rattle.std.specs.Prelude.{string_bytes}
use Rattle.cedar_program.specs.Folders.{Creates, Follows, Removes, PutsInPlace, stored}
use Rattle.cedar_program.proofs.Steps.{of_four, of_three, of_two}
use Rattle.cedar_program.proofs.Replacing.{created_in_part, not_created, put, was_left, was_removed}
use Rattle.cedar_program.proofs.folder.files.replace_file.Goals as goal

pub returns-then-is_left : goal.returns-then-is_left
returns-then-is_left g c =
    let pic = g.F.Folder.picture in
    let name = c.args.name.now in
    let xs = c.args.bytes.now in
    let x = stored c.args.old.now in
    let a = x.access in
    let e = c.in-Err-create.field-0 in
    of_two (λ p q r. created_in_part name xs x c.in-Ok.beside e p q r) (pic c.args.folder.now)
    (pic c.unused_name.new.self) (pic c.create.new.self) c.in-Ok.ensures
    (subst (λ z. Follows (Creates z xs a (Err e)) (pic c.unused_name.new.self)
    (pic c.create.new.self)) c.as_str.ensures.value c.in-Err-create.ensures)

pub returns-in-Err-create : goal.returns-in-Err-create
returns-in-Err-create g c =
    let pic = g.F.Folder.picture in
    let b = string_bytes c.in-Ok.beside in
    let name = c.args.name.now in
    let xs = c.args.bytes.now in
    let x = stored c.args.old.now in
    let a = x.access in
    let e = c.in-Err-create.field-0 in
    of_two (λ p q r. not_created name xs x b e p q r c.if-is_left.false)
    (pic c.args.folder.now)
    (pic c.unused_name.new.self) (pic c.create.new.self) c.in-Ok.ensures
    (subst (λ z. Follows (Creates z xs a (Err e)) (pic c.unused_name.new.self)
    (pic c.create.new.self)) c.as_str.ensures.value c.in-Err-create.ensures)

pub returns-in_default-replace : goal.returns-in_default-replace
returns-in_default-replace g c =
    let pic = g.F.Folder.picture in
    let b = string_bytes c.in-Ok.beside in
    let name = c.args.name.now in
    let xs = c.args.bytes.now in
    let x = stored c.args.old.now in
    let a = x.access in
    let v = x.version in
    of_three (λ p q r s. put name xs x b p q r s) (pic c.args.folder.now)
    (pic c.unused_name.new.self) (pic c.create.new.self) (pic c.replace.new.self) c.in-Ok.ensures
    (subst (λ z. Follows (Creates z xs a (Ok tt)) (pic c.unused_name.new.self)
    (pic c.create.new.self)) c.as_str.ensures.value c.in_default.ensures)
    (subst (λ z. Follows (PutsInPlace z name v (Ok tt)) (pic c.create.new.self) (pic c.replace.new.self))
    c.as_str-2.ensures.value c.in_default-replace.ensures)

pub returns-in-Ok-remove : goal.returns-in-Ok-remove
returns-in-Ok-remove g c =
    let pic = g.F.Folder.picture in
    let b = string_bytes c.in-Ok.beside in
    let name = c.args.name.now in
    let xs = c.args.bytes.now in
    let x = stored c.args.old.now in
    let a = x.access in
    let v = x.version in
    let e = c.in-Err-replace.error in
    of_four (λ p q r s t. was_removed name xs x b e p q r s t) (pic c.args.folder.now)
    (pic c.unused_name.new.self) (pic c.create.new.self) (pic c.replace.new.self)
    (pic c.remove.new.self) c.in-Ok.ensures
    (subst (λ z. Follows (Creates z xs a (Ok tt)) (pic c.unused_name.new.self)
    (pic c.create.new.self)) c.as_str.ensures.value c.in_default.ensures)
    (subst (λ z. Follows (PutsInPlace z name v (Err e)) (pic c.create.new.self) (pic c.replace.new.self))
    c.as_str-2.ensures.value c.in-Err-replace.ensures)
    (subst (λ z. Follows (Removes z (Ok tt)) (pic c.replace.new.self) (pic c.remove.new.self))
    c.as_str-3.ensures.value c.in-Ok-remove.ensures)

pub returns-in-Err-remove : goal.returns-in-Err-remove
returns-in-Err-remove g c =
    let pic = g.F.Folder.picture in
    let b = string_bytes c.in-Ok.beside in
    let name = c.args.name.now in
    let xs = c.args.bytes.now in
    let x = stored c.args.old.now in
    let a = x.access in
    let v = x.version in
    let e = c.in-Err-replace.error in
    let d = c.in-Err-remove.field-0 in
    of_four (λ p q r s t. was_left name xs x c.in-Ok.beside e d p q r s t) (pic c.args.folder.now)
    (pic c.unused_name.new.self) (pic c.create.new.self) (pic c.replace.new.self)
    (pic c.remove.new.self) c.in-Ok.ensures
    (subst (λ z. Follows (Creates z xs a (Ok tt)) (pic c.unused_name.new.self)
    (pic c.create.new.self)) c.as_str.ensures.value c.in_default.ensures)
    (subst (λ z. Follows (PutsInPlace z name v (Err e)) (pic c.create.new.self) (pic c.replace.new.self))
    c.as_str-2.ensures.value c.in-Err-replace.ensures)
    (subst (λ z. Follows (Removes z (Err d)) (pic c.replace.new.self) (pic c.remove.new.self))
    c.as_str-3.ensures.value c.in-Err-remove.ensures)
