-- Each arm's number is the list's eight at its key. Assumes nothing.
use Rattle.std.proofs.Common.{refl}
use Rattle.laws.proofs.Keys.{at_key}
use Rattle.names.specs.Names.{entries}
use Rattle.names.specs.Packed.{letters, eight_of}
use Rattle.names.proofs.lists.eight_letters.Goals as goal

pub returns-in-0 : goal.returns-in-0
unfolding letters entries
returns-in-0 c = at_key (eight_of letters) c.in-0.is refl

pub returns-in-1 : goal.returns-in-1
unfolding letters entries
returns-in-1 c = at_key (eight_of letters) c.in-1.is refl

pub returns-in-2 : goal.returns-in-2
unfolding letters entries
returns-in-2 c = at_key (eight_of letters) c.in-2.is refl

pub returns-in-3 : goal.returns-in-3
unfolding letters entries
returns-in-3 c = at_key (eight_of letters) c.in-3.is refl

pub returns-in-4 : goal.returns-in-4
unfolding letters entries
returns-in-4 c = at_key (eight_of letters) c.in-4.is refl

pub returns-in-5 : goal.returns-in-5
unfolding letters entries
returns-in-5 c = at_key (eight_of letters) c.in-5.is refl

pub returns-in-6 : goal.returns-in-6
unfolding letters entries
returns-in-6 c = at_key (eight_of letters) c.in-6.is refl

pub returns-in-7 : goal.returns-in-7
unfolding letters entries
returns-in-7 c = at_key (eight_of letters) c.in-7.is refl

pub returns-in-8 : goal.returns-in-8
unfolding letters entries
returns-in-8 c = at_key (eight_of letters) c.in-8.is refl

pub returns-in-9 : goal.returns-in-9
unfolding letters entries
returns-in-9 c = at_key (eight_of letters) c.in-9.is refl

pub returns-in-10 : goal.returns-in-10
unfolding letters entries
returns-in-10 c = at_key (eight_of letters) c.in-10.is refl

pub returns-in-11 : goal.returns-in-11
unfolding letters entries
returns-in-11 c = at_key (eight_of letters) c.in-11.is refl

pub returns-in-12 : goal.returns-in-12
unfolding letters entries
returns-in-12 c = at_key (eight_of letters) c.in-12.is refl

pub returns-in-13 : goal.returns-in-13
unfolding letters entries
returns-in-13 c = at_key (eight_of letters) c.in-13.is refl

pub returns-in-14 : goal.returns-in-14
unfolding letters entries
returns-in-14 c = at_key (eight_of letters) c.in-14.is refl

pub returns-in-15 : goal.returns-in-15
unfolding letters entries
returns-in-15 c = at_key (eight_of letters) c.in-15.is refl

pub returns-in-16 : goal.returns-in-16
unfolding letters entries
returns-in-16 c = at_key (eight_of letters) c.in-16.is refl

pub returns-in-17 : goal.returns-in-17
unfolding letters entries
returns-in-17 c = at_key (eight_of letters) c.in-17.is refl

pub returns-in-18 : goal.returns-in-18
unfolding letters entries
returns-in-18 c = at_key (eight_of letters) c.in-18.is refl

pub returns-in-19 : goal.returns-in-19
unfolding letters entries
returns-in-19 c = at_key (eight_of letters) c.in-19.is refl

pub returns-in-20 : goal.returns-in-20
unfolding letters entries
returns-in-20 c = at_key (eight_of letters) c.in-20.is refl

pub returns-in-21 : goal.returns-in-21
unfolding letters entries
returns-in-21 c = at_key (eight_of letters) c.in-21.is refl

pub returns-in-22 : goal.returns-in-22
unfolding letters entries
returns-in-22 c = at_key (eight_of letters) c.in-22.is refl

pub returns-in-23 : goal.returns-in-23
unfolding letters entries
returns-in-23 c = at_key (eight_of letters) c.in-23.is refl

pub returns-in-24 : goal.returns-in-24
unfolding letters entries
returns-in-24 c = at_key (eight_of letters) c.in-24.is refl

pub returns-in-25 : goal.returns-in-25
unfolding letters entries
returns-in-25 c = at_key (eight_of letters) c.in-25.is refl

pub returns-in-26 : goal.returns-in-26
unfolding letters entries
returns-in-26 c = at_key (eight_of letters) c.in-26.is refl

pub returns-in-27 : goal.returns-in-27
unfolding letters entries
returns-in-27 c = at_key (eight_of letters) c.in-27.is refl

pub returns-in-28 : goal.returns-in-28
unfolding letters entries
returns-in-28 c = at_key (eight_of letters) c.in-28.is refl

pub returns-in-29 : goal.returns-in-29
unfolding letters entries
returns-in-29 c = at_key (eight_of letters) c.in-29.is refl

pub returns-in-30 : goal.returns-in-30
unfolding letters entries
returns-in-30 c = at_key (eight_of letters) c.in-30.is refl

pub returns-in-31 : goal.returns-in-31
unfolding letters entries
returns-in-31 c = at_key (eight_of letters) c.in-31.is refl

pub returns-in-32 : goal.returns-in-32
unfolding letters entries
returns-in-32 c = at_key (eight_of letters) c.in-32.is refl

pub returns-in-33 : goal.returns-in-33
unfolding letters entries
returns-in-33 c = at_key (eight_of letters) c.in-33.is refl

pub returns-in-34 : goal.returns-in-34
unfolding letters entries
returns-in-34 c = at_key (eight_of letters) c.in-34.is refl

pub returns-in-35 : goal.returns-in-35
unfolding letters entries
returns-in-35 c = at_key (eight_of letters) c.in-35.is refl

pub returns-in-36 : goal.returns-in-36
unfolding letters entries
returns-in-36 c = at_key (eight_of letters) c.in-36.is refl

pub returns-in-37 : goal.returns-in-37
unfolding letters entries
returns-in-37 c = at_key (eight_of letters) c.in-37.is refl

pub returns-in-38 : goal.returns-in-38
unfolding letters entries
returns-in-38 c = at_key (eight_of letters) c.in-38.is refl

pub returns-in-39 : goal.returns-in-39
unfolding letters entries
returns-in-39 c = at_key (eight_of letters) c.in-39.is refl

pub returns-in-40 : goal.returns-in-40
unfolding letters entries
returns-in-40 c = at_key (eight_of letters) c.in-40.is refl

pub returns-in-41 : goal.returns-in-41
unfolding letters entries
returns-in-41 c = at_key (eight_of letters) c.in-41.is refl

pub returns-in-42 : goal.returns-in-42
unfolding letters entries
returns-in-42 c = at_key (eight_of letters) c.in-42.is refl

pub returns-in-43 : goal.returns-in-43
unfolding letters entries
returns-in-43 c = at_key (eight_of letters) c.in-43.is refl

pub returns-in-44 : goal.returns-in-44
unfolding letters entries
returns-in-44 c = at_key (eight_of letters) c.in-44.is refl

pub returns-in-45 : goal.returns-in-45
unfolding letters entries
returns-in-45 c = at_key (eight_of letters) c.in-45.is refl

pub returns-in-46 : goal.returns-in-46
unfolding letters entries
returns-in-46 c = at_key (eight_of letters) c.in-46.is refl

pub returns-in-47 : goal.returns-in-47
unfolding letters entries
returns-in-47 c = at_key (eight_of letters) c.in-47.is refl

pub returns-in-48 : goal.returns-in-48
unfolding letters entries
returns-in-48 c = at_key (eight_of letters) c.in-48.is refl

pub returns-in-49 : goal.returns-in-49
unfolding letters entries
returns-in-49 c = at_key (eight_of letters) c.in-49.is refl

pub returns-in-50 : goal.returns-in-50
unfolding letters entries
returns-in-50 c = at_key (eight_of letters) c.in-50.is refl

pub returns-in-51 : goal.returns-in-51
unfolding letters entries
returns-in-51 c = at_key (eight_of letters) c.in-51.is refl

pub returns-in-52 : goal.returns-in-52
unfolding letters entries
returns-in-52 c = at_key (eight_of letters) c.in-52.is refl

pub returns-in-53 : goal.returns-in-53
unfolding letters entries
returns-in-53 c = at_key (eight_of letters) c.in-53.is refl

pub returns-in-54 : goal.returns-in-54
unfolding letters entries
returns-in-54 c = at_key (eight_of letters) c.in-54.is refl

pub returns-in-55 : goal.returns-in-55
unfolding letters entries
returns-in-55 c = at_key (eight_of letters) c.in-55.is refl

pub returns-in-56 : goal.returns-in-56
unfolding letters entries
returns-in-56 c = at_key (eight_of letters) c.in-56.is refl

pub returns-in-57 : goal.returns-in-57
unfolding letters entries
returns-in-57 c = at_key (eight_of letters) c.in-57.is refl

pub returns-in-58 : goal.returns-in-58
unfolding letters entries
returns-in-58 c = at_key (eight_of letters) c.in-58.is refl

pub returns-in-59 : goal.returns-in-59
unfolding letters entries
returns-in-59 c = at_key (eight_of letters) c.in-59.is refl

pub returns-in-60 : goal.returns-in-60
unfolding letters entries
returns-in-60 c = at_key (eight_of letters) c.in-60.is refl

pub returns-in-61 : goal.returns-in-61
unfolding letters entries
returns-in-61 c = at_key (eight_of letters) c.in-61.is refl

pub returns-in-62 : goal.returns-in-62
unfolding letters entries
returns-in-62 c = at_key (eight_of letters) c.in-62.is refl

pub returns-in-63 : goal.returns-in-63
unfolding letters entries
returns-in-63 c = at_key (eight_of letters) c.in-63.is refl

pub returns-in-64 : goal.returns-in-64
unfolding letters entries
returns-in-64 c = at_key (eight_of letters) c.in-64.is refl

pub returns-in-65 : goal.returns-in-65
unfolding letters entries
returns-in-65 c = at_key (eight_of letters) c.in-65.is refl

pub returns-in-66 : goal.returns-in-66
unfolding letters entries
returns-in-66 c = at_key (eight_of letters) c.in-66.is refl

pub returns-in-67 : goal.returns-in-67
unfolding letters entries
returns-in-67 c = at_key (eight_of letters) c.in-67.is refl

pub returns-in-68 : goal.returns-in-68
unfolding letters entries
returns-in-68 c = at_key (eight_of letters) c.in-68.is refl

pub returns-in-69 : goal.returns-in-69
unfolding letters entries
returns-in-69 c = at_key (eight_of letters) c.in-69.is refl

pub returns-in-70 : goal.returns-in-70
unfolding letters entries
returns-in-70 c = at_key (eight_of letters) c.in-70.is refl

pub returns-in-71 : goal.returns-in-71
unfolding letters entries
returns-in-71 c = at_key (eight_of letters) c.in-71.is refl

pub returns-in-72 : goal.returns-in-72
unfolding letters entries
returns-in-72 c = at_key (eight_of letters) c.in-72.is refl

pub returns-in-73 : goal.returns-in-73
unfolding letters entries
returns-in-73 c = at_key (eight_of letters) c.in-73.is refl

pub returns-in-74 : goal.returns-in-74
unfolding letters entries
returns-in-74 c = at_key (eight_of letters) c.in-74.is refl

pub returns-in-75 : goal.returns-in-75
unfolding letters entries
returns-in-75 c = at_key (eight_of letters) c.in-75.is refl

pub returns-in-76 : goal.returns-in-76
unfolding letters entries
returns-in-76 c = at_key (eight_of letters) c.in-76.is refl

pub returns-in-77 : goal.returns-in-77
unfolding letters entries
returns-in-77 c = at_key (eight_of letters) c.in-77.is refl
