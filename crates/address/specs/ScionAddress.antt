-- A SCION address: a network number, a host, and the sixteen bytes beside it.
use Rattle.std.specs.Prelude.{ℕ, List}
use Rattle.address.specs.declared.ia.IsdAsn.{IsdAsn}
use Rattle.address.specs.declared.host.HostAddr.{HostAddr}
use Rattle.address.specs.declared.scion_address.ScionAddr.{ScionAddr}

abbrev pub address_of : IsdAsn → HostAddr → List ℕ → ScionAddr
address_of ia host bytes = record { isd_asn = ia; host = host; bytes = bytes }

abbrev pub with_isd_asn : ScionAddr → IsdAsn → ScionAddr
with_isd_asn a ia = address_of ia a.host a.bytes

abbrev pub with_host : ScionAddr → HostAddr → List ℕ → ScionAddr
with_host a host bytes = address_of a.isd_asn host bytes
