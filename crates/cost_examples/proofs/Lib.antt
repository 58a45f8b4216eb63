mod Depots
