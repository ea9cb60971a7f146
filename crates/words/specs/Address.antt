-- The address unit's instructions, by family: the way of an access says which of ldvh, ldvv and lds it is. In St and Sta the data register is `reg` too.
use Rattle.words.specs.Operands.{HalfSet, Sum, BitSum, AddrSum, Access, AccessAdd}

pub data Address : Type 0 where
  Set : HalfSet → Address
  Add : Sum → Address
  Bitop : BitSum → Address
  Aadd : AddrSum → Address
  Ld : Access → Address
  St : Access → Address
  Lda : AccessAdd → Address
  Sta : AccessAdd → Address
